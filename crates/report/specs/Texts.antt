-- What the programs `check` and `measure` print (RULES 12). Assumes nothing.
--   decimal n          a number below 10^20: digits, no leading zeros
--   signed z           a signed one: "-" before the digits where it is below 0
--   text_line name n  a line: the name, the number, a line feed
--   refused_text, ok_text, outcome_text  what `check` prints of an outcome
--   areas_text file ms k  what `measure` prints of the areas of the first k records
--   check_text, measure_text  what the programs print of an input
use Rattle.std.specs.Prelude.{cond, List, [], ◌∷◌, ◌++◌, ℕ, zero, suc, ◌+◌, ◌/◌, ◌%◌, eqb, ltb, ℤ, pos, negsuc, length, get_or}
use Rattle.records.specs.View.{record_of}
use Rattle.records.specs.Columns.{Column, span_of, area_code, area_serial}
use Rattle.records.specs.Reading.{code_in}
use Rattle.codes.specs.Code.{code_value}
use Rattle.permitted.specs.Permitted.{size}
use Rattle.rules.specs.declared.Due.{Due}
use Rattle.rules.specs.declared.Due.TheVariants.{Mesh, Layer, Node, Line, Coordinates, Area, Loop}
use Rattle.walk.specs.declared.State.{State}
use Rattle.walk.specs.States.{size_at, due_of, state_at, counts_at}
use Rattle.walk.specs.Stages.{records_of, need_of}
use Rattle.judge.specs.declared.Outcome.{Outcome}
use Rattle.judge.specs.Outcomes.{outcome_of, measures_of}
use Rattle.report.specs.declared.Shown.{Shown}

-- the last digit, and those before it; w is more than the digits
unfoldable pub digits_to : ℕ → ℕ → List ℕ
digits_to zero n = []
digits_to (suc w) n = cond (ltb n 10) ((48 + n) ∷ []) (digits_to w (n / 10) ++ ((48 + n % 10) ∷ []))

unfoldable pub decimal : ℕ → List ℕ
decimal n = digits_to 20 n

unfoldable pub signed : ℤ → List ℕ
signed (pos n) = decimal n
signed (negsuc n) = 45 ∷ decimal (suc n)

-- RULES 12.3: each printed line ends with one
abbrev pub line_feed : List ℕ
line_feed = 10 ∷ []

abbrev pub text_line : List ℕ → ℕ → List ℕ
text_line name n = (name ++ decimal n) ++ line_feed

-- RULES 12.1: "status=ok\n"
abbrev pub status_ok : List ℕ
status_ok = 115 ∷ 116 ∷ 97 ∷ 116 ∷ 117 ∷ 115 ∷ 61 ∷ 111 ∷ 107 ∷ 10 ∷ []

-- "meshes="
abbrev pub meshes_name : List ℕ
meshes_name = 109 ∷ 101 ∷ 115 ∷ 104 ∷ 101 ∷ 115 ∷ 61 ∷ []

-- "layers="
abbrev pub layers_name : List ℕ
layers_name = 108 ∷ 97 ∷ 121 ∷ 101 ∷ 114 ∷ 115 ∷ 61 ∷ []

-- "nodes="
abbrev pub nodes_name : List ℕ
nodes_name = 110 ∷ 111 ∷ 100 ∷ 101 ∷ 115 ∷ 61 ∷ []

-- "lines="
abbrev pub lines_name : List ℕ
lines_name = 108 ∷ 105 ∷ 110 ∷ 101 ∷ 115 ∷ 61 ∷ []

-- "areas="
abbrev pub areas_name : List ℕ
areas_name = 97 ∷ 114 ∷ 101 ∷ 97 ∷ 115 ∷ 61 ∷ []

-- "records="
abbrev pub records_name : List ℕ
records_name = 114 ∷ 101 ∷ 99 ∷ 111 ∷ 114 ∷ 100 ∷ 115 ∷ 61 ∷ []

-- RULES 12.1: "status=refused\n"
abbrev pub status_refused : List ℕ
status_refused = 115 ∷ 116 ∷ 97 ∷ 116 ∷ 117 ∷ 115 ∷ 61 ∷ 114 ∷ 101 ∷ 102 ∷ 117 ∷ 115 ∷ 101 ∷ 100 ∷ 10 ∷ []

-- "number="
abbrev pub number_name : List ℕ
number_name = 110 ∷ 117 ∷ 109 ∷ 98 ∷ 101 ∷ 114 ∷ 61 ∷ []

-- "record="
abbrev pub record_name : List ℕ
record_name = 114 ∷ 101 ∷ 99 ∷ 111 ∷ 114 ∷ 100 ∷ 61 ∷ []

-- "column="
abbrev pub column_name : List ℕ
column_name = 99 ∷ 111 ∷ 108 ∷ 117 ∷ 109 ∷ 110 ∷ 61 ∷ []

-- RULES 12.1: "status=toolong\n"
abbrev pub status_too_long : List ℕ
status_too_long = 115 ∷ 116 ∷ 97 ∷ 116 ∷ 117 ∷ 115 ∷ 61 ∷ 116 ∷ 111 ∷ 111 ∷ 108 ∷ 111 ∷ 110 ∷ 103 ∷ 10 ∷ []

-- RULES 12.2: "mesh="
abbrev pub mesh_name : List ℕ
mesh_name = 109 ∷ 101 ∷ 115 ∷ 104 ∷ 61 ∷ []

-- " layer="
abbrev pub layer_name : List ℕ
layer_name = 32 ∷ 108 ∷ 97 ∷ 121 ∷ 101 ∷ 114 ∷ 61 ∷ []

-- " area="
abbrev pub area_name : List ℕ
area_name = 32 ∷ 97 ∷ 114 ∷ 101 ∷ 97 ∷ 61 ∷ []

-- " code="
abbrev pub code_name : List ℕ
code_name = 32 ∷ 99 ∷ 111 ∷ 100 ∷ 101 ∷ 61 ∷ []

-- " measure="
abbrev pub measure_name : List ℕ
measure_name = 32 ∷ 109 ∷ 101 ∷ 97 ∷ 115 ∷ 117 ∷ 114 ∷ 101 ∷ 61 ∷ []

-- RULES 12.1: of a refused file four lines
unfoldable pub refused_text : Outcome → List ℕ
refused_text o =
    status_refused
    ++ (text_line number_name o.number
    ++ (text_line record_name o.place
    ++ text_line column_name o.column))

-- RULES 12.1: of an accepted file seven lines, with the counts over the whole file
unfoldable pub ok_text : Outcome → List ℕ
ok_text o =
    status_ok
    ++ (text_line meshes_name o.meshes
    ++ (text_line layers_name o.layers
    ++ (text_line nodes_name o.nodes
    ++ (text_line lines_name o.lines
    ++ (text_line areas_name o.areas
    ++ text_line records_name o.records)))))

-- RULES 12.1: number 0 is acceptance
unfoldable pub outcome_text : Outcome → List ℕ
outcome_text o = cond (eqb o.number 0) (ok_text o) (refused_text o)

-- ---- the areas

-- RULES 12.2, 12.3: as mesh=533945 layer=1 area=1 code=13101 measure=200000000, and a line feed
unfoldable pub area_text : Shown → ℤ → List ℕ
area_text x m =
    (mesh_name ++ decimal x.mesh)
    ++ ((layer_name ++ decimal x.layer)
    ++ ((area_name ++ decimal x.area)
    ++ ((code_name ++ decimal x.code)
    ++ (measure_name
    ++ (signed m
    ++ line_feed)))))

-- RULES 5.7: a code is its value, whatever its mark
abbrev pub code_size : List ℕ → Column → ℕ
code_size t c = size (code_value (code_in t (span_of c).start (span_of c).width))

-- RULES 12.2: of the A record t, due in the state s: its code at 5, its serial at 10 (RULES 4.6); layer is the layer code
unfoldable pub shown_in : State → List ℕ → Shown
shown_in s t = record { mesh = s.mesh.code; layer = s.layer.code; area = size_at t area_serial; code = code_size t area_code }

-- RULES 12.2: of the record t, due as d, where m is the measure: only an A has a line
unfoldable pub record_text : Due → State → List ℕ → ℤ → List ℕ
record_text (Mesh last) s t m = []
record_text (Layer last) s t m = []
record_text (Node layer last) s t m = []
record_text (Line layer last letters) s t m = []
record_text (Coordinates left) s t m = []
record_text (Area layer last) s t m = area_text (shown_in s t) m
record_text (Loop last count left) s t m = []

-- RULES 12.2: of the first k records, one line an area, in file order; ms has the areas' measures
unfoldable pub areas_text : List ℕ → List ℤ → ℕ → List ℕ
areas_text file ms zero = []
areas_text file ms (suc k) =
    areas_text file ms k
    ++ record_text (due_of (state_at file k)) (state_at file k) (record_of file (suc k)) (get_or ms (counts_at file k).areas (pos 0))

-- ---- the programs

-- RULES 12.1: up to 65,490 bytes, 885 records; of a longer input only `status=toolong`
abbrev pub most_bytes : ℕ
most_bytes = 65490

abbrev pub or_too_long : List ℕ → List ℕ → List ℕ
or_too_long input text = cond (ltb most_bytes (length input)) status_too_long text

-- RULES 12.3: the judge's answer, with as much room as the file needs
abbrev pub answer_to : List ℕ → Outcome
answer_to file = outcome_of file (need_of file) (need_of file)

-- RULES 12.1: the program `check`
unfoldable pub check_text : List ℕ → List ℕ
check_text input = or_too_long input (outcome_text (answer_to input))

-- RULES 12.2: the program `measure`: of an accepted file one line an area, in file order; otherwise what `check` prints
unfoldable pub measure_text : List ℕ → List ℕ
measure_text input =
    or_too_long input (cond (eqb (answer_to input).number 0) (areas_text input (measures_of input) (records_of input)) (refused_text (answer_to input)))
