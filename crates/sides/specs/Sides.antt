-- Stage 6 (RULES 6.9, refusal 18): whether each side of each line is listed in its area. The table t says where areas stand; l is the
-- layer of the L at record r. Assumes nothing.
--   lists file a back n    the area whose A is record a has the entry +n or, backwards, -n
--   side_listed ..         the area that stands at a column has it; area 0 is nobody
--   list_checks ..         of both sides of a line
--   stage_six file t b     of all lines, in the order of RULES 6.1
use Rattle.std.specs.Prelude.{Bool, true, false, ◌||◌, List, [], ◌∷◌, ℕ, ◌+◌}
use Rattle.records.specs.Columns.{Span, span_of, column_of, number_on, left_area, right_area}
use Rattle.verdict.specs.Rules.{Rule, Check, check}
use Rattle.rules.specs.declared.Due.{Due}
use Rattle.rules.specs.declared.Due.TheVariants.{Mesh, Layer, Node, Line, Coordinates, Area, Loop}
use Rattle.walk.specs.States.{due_of}
use Rattle.layers.specs.declared.Bases.{Bases}
use Rattle.layers.specs.declared.Layer as layers
use Rattle.layers.specs.declared.Standing.{Standing}
use Rattle.layers.specs.Naming.{area_of}
use Rattle.layers.specs.Standing.{stage_of}
use Rattle.links.specs.Links.{entry_is, some}
use Rattle.permitted.specs.Permitted.{is_zero}
use Rattle.entries.specs.Entries.{slot_of, slots_of}

-- RULES 6.9, 18: some entry of the area, in whichever loop, is +n or, backwards, -n
unfoldable pub lists : List ℕ → ℕ → Bool → ℕ → Bool
lists file a back n = some (slots_of file a) (λ e. entry_is back n (slot_of file (a + 1) e))

-- RULES 6.9, 18: line n's area in the columns c is 0, or has +n or, backwards, -n
unfoldable pub side_listed : List ℕ → List ℕ → layers.Layer → ℕ → Span → Bool → ℕ → Bool
side_listed file t l r c back n = is_zero (number_on file r c) || lists file (area_of t l (number_on file r c)) back n

-- RULES 6.9, 18: line n's left area is 0 or has the entry -n; its right area is 0 or has +n
unfoldable pub list_checks : List ℕ → List ℕ → layers.Layer → ℕ → ℕ → List Check
list_checks file t l r n =
    check (column_of left_area) 18 (side_listed file t l r (span_of left_area) true n)
    ∷ check (column_of right_area) 18 (side_listed file t l r (span_of right_area) false n)
    ∷ []

-- RULES 6.9: record r, due as d, in the layer l; the line behind line `last` is the next
abbrev pub line_list_checks : Due → List ℕ → List ℕ → layers.Layer → ℕ → List Check
line_list_checks (Mesh last) file t l r = []
line_list_checks (Layer last) file t l r = []
line_list_checks (Node layer last) file t l r = []
line_list_checks (Line layer last letters) file t l r = list_checks file t l r (last + 1)
line_list_checks (Coordinates left) file t l r = []
line_list_checks (Area layer last) file t l r = []
line_list_checks (Loop last count left) file t l r = []

-- RULES 6.1: stage 6 is judged seventh
abbrev pub seventh : ℕ
seventh = 7

-- RULES 6.9: the record that comes next where the walk stands at x
abbrev pub sides_at : List ℕ → List ℕ → Standing → List Check
sides_at file t x = line_list_checks (due_of x.state) file t x.layer (x.records + 1)

-- RULES 6.9: the whole stage, record by record
unfoldable pub stage_six : List ℕ → List ℕ → Bases → List Rule
stage_six file t b = stage_of seventh (sides_at file t) file t b
