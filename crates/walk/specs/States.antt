-- The walk over the records (RULES 2.3: a mesh is one M and its layers; a layer is one H, its nodes, its lines, each an L and its
-- coordinate records, and its areas, each an A and its loop records; RULES 2.5: the numbers that steer the walk).
-- Assumes nothing.
--   size_at t c       the number in the field c of the record t, without its sign; 0 where there is none
--   due_of s         what is due in the state s
--   next_of s t       the state behind the record t
--   state_at file k  the state behind the first k records
--   counts_at file k  what these records were, counted, and the words that they need
use Rattle.std.specs.Prelude.{cond, List, ℕ, zero, suc, ◌+◌, ◌-◌, ◌*◌, ◌≤◌, ltb}
use Rattle.fields.specs.Number.{number_at}
use Rattle.fields.specs.Answer.{value_of}
use Rattle.records.specs.View.{record_of}
use Rattle.records.specs.Reading.{head_letters}
use Rattle.records.specs.Columns.{Column, span_of, mesh_code, mesh_layers, layer_code, layer_nodes, layer_lines, layer_areas, line_points, area_loops, loop_count}
use Rattle.permitted.specs.Permitted.{size}
use Rattle.rules.specs.declared.Due.{Due}
use Rattle.rules.specs.declared.Due.TheVariants.{Mesh, Layer, Node, Line, Coordinates, Area, Loop}
use Rattle.walk.specs.declared.MeshPart.{MeshPart}
use Rattle.walk.specs.declared.LayerPart.{LayerPart}
use Rattle.walk.specs.declared.LinePart.{LinePart}
use Rattle.walk.specs.declared.AreaPart.{AreaPart}
use Rattle.walk.specs.declared.State.{State}
use Rattle.walk.specs.declared.Counts.{Counts}
use Rattle.walk.specs.Row.{row_length, most_layer_words}

unfoldable pub size_in : List ℕ → ℕ → ℕ → ℕ
size_in t c w = size (value_of (number_at t c w))

abbrev pub size_at : List ℕ → Column → ℕ
size_at t c = size_in t (span_of c).start (span_of c).width

-- RULES 2.3: points and entries that are left, then loops, nodes, lines, areas and layers that have not begun; else the mesh has ended
unfoldable pub due_of : State → Due
due_of s =
    cond (ltb 0 s.line.points) (Coordinates s.line.points)
    (cond (ltb 0 s.area.entries) (Loop s.area.begun s.area.count s.area.entries)
    (cond (ltb s.area.begun s.area.loops) (Loop s.area.begun s.area.count 0)
    (cond (ltb s.layer.node s.layer.nodes) (Node s.layer.code s.layer.node)
    (cond (ltb s.layer.line s.layer.lines) (Line s.layer.code s.layer.line s.layer.letters)
    (cond (ltb s.layer.area s.layer.areas) (Area s.layer.code s.layer.area)
    (cond (ltb 0 s.mesh.layers) (Layer s.layer.code) (Mesh s.mesh.code)))))))

-- ---- the parts of a state, behind each kind of record

abbrev pub no_mesh_part : MeshPart
no_mesh_part = record { code = 0; layers = 0 }

abbrev pub no_layer_part : LayerPart
no_layer_part = record { code = 0; nodes = 0; node = 0; lines = 0; line = 0; areas = 0; area = 0; letters = 0 }

abbrev pub no_line_part : LinePart
no_line_part = record { points = 0 }

abbrev pub no_area_part : AreaPart
no_area_part = record { loops = 0; begun = 0; count = 0; entries = 0 }

-- RULES 2.5: an M has the mesh code and how many layers follow
abbrev pub mesh_part : List ℕ → MeshPart
mesh_part t = record { code = size_at t mesh_code; layers = size_at t mesh_layers }

-- one of the mesh's layers has begun
abbrev pub layer_less : MeshPart → MeshPart
layer_less m = record { code = m.code; layers = m.layers - 1 }

-- RULES 2.5: an H has the layer code and how many nodes, lines and areas follow; RULES 1.7: its letters are the layer's
abbrev pub layer_part : List ℕ → LayerPart
layer_part t = record {
  code = size_at t layer_code;
  nodes = size_at t layer_nodes;
  node = 0;
  lines = size_at t layer_lines;
  line = 0;
  areas = size_at t layer_areas;
  area = 0;
  letters = head_letters t;
}

-- n more of the layer's nodes came, a line, an area
abbrev pub nodes_more : LayerPart → ℕ → LayerPart
nodes_more l n = record {
  code = l.code;
  nodes = l.nodes;
  node = l.node + n;
  lines = l.lines;
  line = l.line;
  areas = l.areas;
  area = l.area;
  letters = l.letters;
}

abbrev pub line_more : LayerPart → LayerPart
line_more l = record {
  code = l.code;
  nodes = l.nodes;
  node = l.node;
  lines = l.lines;
  line = l.line + 1;
  areas = l.areas;
  area = l.area;
  letters = l.letters;
}

abbrev pub area_more : LayerPart → LayerPart
area_more l = record {
  code = l.code;
  nodes = l.nodes;
  node = l.node;
  lines = l.lines;
  line = l.line;
  areas = l.areas;
  area = l.area + 1;
  letters = l.letters;
}

-- RULES 2.5: an L has how many points follow
abbrev pub line_part : List ℕ → LinePart
line_part t = record { points = size_at t line_points }

-- RULES 2.6: h coordinate records take seven of the points each
abbrev pub points_less : LinePart → ℕ → LinePart
points_less l h = record { points = l.points - 7 * h }

-- RULES 2.5: an A has how many loops follow
abbrev pub area_part : List ℕ → AreaPart
area_part t = record { loops = size_at t area_loops; begun = 0; count = 0; entries = 0 }

-- RULES 2.5, 2.6: a loop's first record has its line count n; it and each later one take twelve of the entries
abbrev pub loop_begun : AreaPart → ℕ → AreaPart
loop_begun a n = record { loops = a.loops; begun = a.begun + 1; count = n; entries = n - 12 }

abbrev pub entries_less : AreaPart → AreaPart
entries_less a = record { loops = a.loops; begun = a.begun; count = a.count; entries = a.entries - 12 }

-- ---- the state: each record replaces a part

-- before the first record
abbrev pub start : State
start = record { mesh = no_mesh_part; layer = no_layer_part; line = no_line_part; area = no_area_part }

-- behind an M
abbrev pub meshed : List ℕ → State
meshed t = record { mesh = mesh_part t; layer = no_layer_part; line = no_line_part; area = no_area_part }

-- behind an H
abbrev pub headed : State → List ℕ → State
headed s t = record { mesh = layer_less s.mesh; layer = layer_part t; line = no_line_part; area = no_area_part }

-- behind an N: a node is one record
abbrev pub noded : State → State
noded s = record { mesh = s.mesh; layer = nodes_more s.layer 1; line = s.line; area = s.area }

-- behind an L
abbrev pub lined : State → List ℕ → State
lined s t = record { mesh = s.mesh; layer = line_more s.layer; line = line_part t; area = s.area }

-- behind a coordinate record
abbrev pub pointed : State → State
pointed s = record { mesh = s.mesh; layer = s.layer; line = points_less s.line 1; area = s.area }

-- behind an A
abbrev pub area_begun : State → List ℕ → State
area_begun s t = record { mesh = s.mesh; layer = area_more s.layer; line = s.line; area = area_part t }

-- behind a loop's first record; behind a later one
abbrev pub begun_loop : State → ℕ → State
begun_loop s n = record { mesh = s.mesh; layer = s.layer; line = s.line; area = loop_begun s.area n }

abbrev pub went_on : State → State
went_on s = record { mesh = s.mesh; layer = s.layer; line = s.line; area = entries_less s.area }

abbrev pub next_for : Due → State → List ℕ → State
next_for (Mesh last) s t = meshed t
next_for (Layer last) s t = headed s t
next_for (Node layer last) s t = noded s
next_for (Line layer last letters) s t = lined s t
next_for (Coordinates left) s t = pointed s
next_for (Area layer last) s t = area_begun s t
next_for (Loop last count zero) s t = begun_loop s (size_at t loop_count)
next_for (Loop last count (suc left)) s t = went_on s

unfoldable pub next_of : State → List ℕ → State
next_of s t = next_for (due_of s) s t

-- record k + 1 of the file, whose records count from 1, stands behind k records
unfoldable pub state_at : List ℕ → ℕ → State
state_at file zero = start
state_at file (suc k) = next_of (state_at file k) (record_of file (suc k))

-- ---- what the records were

abbrev pub no_counts : Counts
no_counts = record { meshes = 0; layers = 0; nodes = 0; lines = 0; areas = 0; words = 0 }

-- RULES 8.2: a layer needs its row and a word for each line and each area
unfoldable pub layer_words : List ℕ → ℕ
layer_words t = row_length + (size_at t layer_lines + size_at t layer_areas)

-- counts of no more records than there may be: a further one can be counted
pub record Countable (c : Counts) : Type 0 where
  pub meshes : c.meshes ≤ 6399936
  pub layers : c.layers ≤ 6399936
  pub nodes : c.nodes ≤ 6399936
  pub lines : c.lines ≤ 6399936
  pub areas : c.areas ≤ 6399936
  pub words : c.words ≤ most_layer_words * 6399936

-- RULES 9.1: each record is counted as what it is; RULES 8.2: an H adds its layer's words
abbrev pub counted_for : Due → Counts → List ℕ → Counts
counted_for (Mesh last) c t = record { meshes = c.meshes + 1; layers = c.layers; nodes = c.nodes; lines = c.lines; areas = c.areas; words = c.words }
counted_for (Layer last) c t = record {
  meshes = c.meshes;
  layers = c.layers + 1;
  nodes = c.nodes;
  lines = c.lines;
  areas = c.areas;
  words = c.words + layer_words t;
}
counted_for (Node layer last) c t = record { meshes = c.meshes; layers = c.layers; nodes = c.nodes + 1; lines = c.lines; areas = c.areas; words = c.words }
counted_for (Line layer last letters) c t = record {
  meshes = c.meshes;
  layers = c.layers;
  nodes = c.nodes;
  lines = c.lines + 1;
  areas = c.areas;
  words = c.words;
}
counted_for (Coordinates left) c t = c
counted_for (Area layer last) c t = record { meshes = c.meshes; layers = c.layers; nodes = c.nodes; lines = c.lines; areas = c.areas + 1; words = c.words }
counted_for (Loop last count left) c t = c

unfoldable pub counts_at : List ℕ → ℕ → Counts
counts_at file zero = no_counts
counts_at file (suc k) = counted_for (due_of (state_at file k)) (counts_at file k) (record_of file (suc k))
