-- The table of a file (RULES 8.1: for each layer, in file order, its row; behind all rows each line's L record; then each
-- area's A record). Assumes nothing.
--   row_words d t r  the words of the row that the record t gives, due as d, with the number r: none but for an H
--   gather g file k  the words that g takes from the first k records, in file order
--   table_of file     the file's table
--   filled ws d      ws in front, and what stood in d behind it
--   tabled_of, filled_by  what is answered up to refusal 9, and what the lent table holds then
use Rattle.std.specs.Prelude.{cond, List, [], ◌∷◌, ◌++◌, ℕ, zero, suc, eqb, length, drop, Result, Ok, Err}
use Rattle.records.specs.View.{record_of}
use Rattle.records.specs.Reading.{head_letters}
use Rattle.records.specs.Columns.{layer_nodes, layer_lines, layer_areas}
use Rattle.verdict.specs.Rules.{Verdict, first_broken}
use Rattle.rules.specs.declared.Due.{Due}
use Rattle.rules.specs.declared.Due.TheVariants.{Mesh, Layer, Node, Line, Coordinates, Area, Loop}
use Rattle.walk.specs.Row.{row_of}
use Rattle.walk.specs.States.{size_at, due_of, state_at, no_counts}
use Rattle.walk.specs.declared.Counts.{Counts}
use Rattle.walk.specs.declared.Refused.{Refused}
use Rattle.walk.specs.Stages.{records_of, counts_in, walked_of, early}

-- RULES 8.1: a layer's row
abbrev pub row_words : Due → List ℕ → ℕ → List ℕ
row_words (Mesh last) t r = []
row_words (Layer last) t r = row_of r (size_at t layer_nodes) (size_at t layer_lines) (size_at t layer_areas) (head_letters t)
row_words (Node layer last) t r = []
row_words (Line layer last letters) t r = []
row_words (Coordinates left) t r = []
row_words (Area layer last) t r = []
row_words (Loop last count left) t r = []

-- RULES 8.1: each line's L record
abbrev pub line_words : Due → List ℕ → ℕ → List ℕ
line_words (Mesh last) t r = []
line_words (Layer last) t r = []
line_words (Node layer last) t r = []
line_words (Line layer last letters) t r = r ∷ []
line_words (Coordinates left) t r = []
line_words (Area layer last) t r = []
line_words (Loop last count left) t r = []

-- RULES 8.1: each area's A record
abbrev pub area_words : Due → List ℕ → ℕ → List ℕ
area_words (Mesh last) t r = []
area_words (Layer last) t r = []
area_words (Node layer last) t r = []
area_words (Line layer last letters) t r = []
area_words (Coordinates left) t r = []
area_words (Area layer last) t r = r ∷ []
area_words (Loop last count left) t r = []

unfoldable pub gather : (Due → List ℕ → ℕ → List ℕ) → List ℕ → ℕ → List ℕ
gather g file zero = []
gather g file (suc k) = gather g file k ++ g (due_of (state_at file k)) (record_of file (suc k)) (suc k)

-- RULES 8.1: all rows, then the lines, then the areas
unfoldable pub table_of : List ℕ → List ℕ
table_of file =
    gather row_words file (records_of file)
    ++ (gather line_words file (records_of file)
    ++ gather area_words file (records_of file))

abbrev pub filled : {A : Type 0} → List A → List A → List A
filled ws d = ws ++ drop (length ws) d

-- RULES 8.3: what a call leaves in the table whose rules up to refusal 9 gave a verdict: untouched, or the table in front
abbrev pub filled_by : Verdict → List ℕ → List ℕ → List ℕ
filled_by (Ok _) file words = filled (table_of file) words
filled_by (Err r) file words = words

-- what is answered then: the counts; or the refusal, and for a table that is too short the counts with it
abbrev pub tabled_by : Verdict → Counts → Result Counts Refused
tabled_by (Ok _) c = Ok c
tabled_by (Err r) c = Err (record { refusal = r; counts = cond (eqb r.number 9) c no_counts })

-- the counts are those of a file that keeps stages 1 and 2, and 0 of any other
unfoldable pub tabled_of : List ℕ → ℕ → Result Counts Refused
tabled_of file room = tabled_by (first_broken (early file room)) (counts_in (walked_of file))
