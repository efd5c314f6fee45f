-- What a number names (RULES 2.7, 6.7): nodes, lines and areas are numbered from 1 in each layer of each mesh, and a number names only a
-- record of its own layer. A layer is a row of the table t: its H record, how many nodes, lines and areas it has, and where its lines
-- and areas begin in the table (RULES 8.1). Assumes nothing.
--   layer_in t b i   layer i of the table t, counted from 0; b says where the lines and the areas of all layers begin
--   names n v        v is one of the serials 1 to n
--   names_line n v   v, with or without its sign turned, is one of them
--   node_of, line_of, area_of  the record that the number or entry v names in the layer l; 0, which is no record, where it names nothing
use Rattle.std.specs.Prelude.{Bool, cond, ◌&&◌, List, ℕ, zero, suc, ◌+◌, ◌*◌, ◌-◌, leb, ℤ, get_or}
use Rattle.permitted.specs.Permitted.{size, within}
use Rattle.walk.specs.Row.{row_length, head_word, nodes_word, lines_word, areas_word}
use Rattle.walk.specs.Stages.{most_records}
use Rattle.layers.specs.declared.Bases.{Bases}
use Rattle.layers.specs.declared.Layer.{Layer}

-- RULES 8.1: word j of row i
abbrev pub row_word : List ℕ → ℕ → ℕ → ℕ
row_word t i j = get_or t (row_length * i + j) 0

-- word j of the rows before row i, added up
unfoldable pub words_before : List ℕ → ℕ → ℕ → ℕ
words_before t j zero = 0
words_before t j (suc i) = words_before t j i + row_word t i j

-- RULES 8.1: the layer of row i; its lines and its areas stand behind those of the rows before it
abbrev pub row_layer : List ℕ → Bases → ℕ → Layer
row_layer t b i = record {
  head = row_word t i head_word;
  nodes = row_word t i nodes_word;
  lines = row_word t i lines_word;
  areas = row_word t i areas_word;
  line = b.lines + words_before t lines_word i;
  area = b.areas + words_before t areas_word i;
}

abbrev pub no_layer : Layer
no_layer = record { head = 0; nodes = 0; lines = 0; areas = 0; line = 0; area = 0 }

-- RULES 2.1: a file has no more layers than records
unfoldable pub layer_in : List ℕ → Bases → ℕ → Layer
layer_in t b i = cond (leb i most_records) (row_layer t b i) no_layer

-- RULES 2.7: numbers count from 1, so 0 names nothing
unfoldable pub names : ℕ → ℤ → Bool
names n v = within 1 n v

-- RULES 1.2, 6.7: an entry names a line by its size, whatever its sign, which says how the line is walked
unfoldable pub names_line : ℕ → ℤ → Bool
names_line n v = leb 1 (size v) && leb (size v) n

-- RULES 2.3: nodes stand behind their H, one record each
unfoldable pub node_of : Layer → ℤ → ℕ
node_of l v = cond (names l.nodes v) (l.head + size v) 0

-- RULES 8.1: the table has each line's L record
unfoldable pub line_of : List ℕ → Layer → ℤ → ℕ
line_of t l v = cond (names_line l.lines v) (get_or t (l.line + (size v - 1)) 0) 0

-- RULES 8.1: and each area's A record
unfoldable pub area_of : List ℕ → Layer → ℤ → ℕ
area_of t l v = cond (names l.areas v) (get_or t (l.area + (size v - 1)) 0) 0
