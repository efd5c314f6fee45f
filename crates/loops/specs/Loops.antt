-- Stage 5 (RULES 6.8, refusals 13 in an area, 15, 16 and 17): whether an area's loops close, turn the right way round and have the area
-- on their right hand. The table t says where lines and areas stand; l is the layer of the loop record r. Assumes nothing.
--   repeats_area file a e  slot e of the area whose A is record a repeats an earlier one
--   joins ..               an entry begins where the one before it ends
--   winds serial m         a loop's measure m has the sign that its serial asks for
--   area_on_hand ..         the area on an entry's right hand
--   loop_checks ..         all of them, of a loop record
--   stage_five file t b    of all loop records, in the order of RULES 6.1
use Rattle.std.specs.Prelude.{Bool, cond, ◌||◌, not, List, [], ◌∷◌, ◌++◌, ℕ, ◌+◌, ◌*◌, ◌-◌, ◌/◌, eqb, ltb, ℤ, pos, get_or}
use Rattle.std.specs.Int.Signed.{lt_z}
use Rattle.records.specs.Columns.{column_of, value_at, loop_serial, loop_entries, slot_column}
use Rattle.records.specs.Columns as column
use Rattle.verdict.specs.Rules.{Rule, Check, check, spread}
use Rattle.permitted.specs.Permitted.{natural, is, is_zero}
use Rattle.rules.specs.declared.Due.{Due}
use Rattle.rules.specs.declared.Due.TheVariants.{Mesh, Layer, Node, Line, Coordinates, Area, Loop}
use Rattle.walk.specs.States.{due_of}
use Rattle.layers.specs.declared.Bases.{Bases}
use Rattle.layers.specs.declared.Layer as layers
use Rattle.layers.specs.declared.Standing.{Standing}
use Rattle.layers.specs.Standing.{stage_of}
use Rattle.links.specs.Links.{equal, repeats, on_hand, first_node, loop_entry, slot_of}
use Rattle.entries.specs.Entries.{count_at}
use Rattle.entries.specs.Loops.{loop_measure_in}

-- ---- slots

-- RULES 6.8, 13: an entry of an area is the same, sign and all, as an earlier one of that area, in whichever loop
unfoldable pub repeats_area : List ℕ → ℕ → ℕ → Bool
repeats_area file a e = repeats (slot_of file (a + 1)) e

-- RULES 4.4: the node where line v ends or, backwards, starts
unfoldable pub last_node : List ℕ → List ℕ → layers.Layer → ℤ → ℤ
last_node file t l v = on_hand file t l column.end_node column.start_node v

-- RULES 6.8, 15: the entry before a loop's first is the loop's last; f is the loop's first record
unfoldable pub entry_before : List ℕ → ℕ → ℕ → ℤ
entry_before file f e = slot_of file f (cond (eqb e 0) (count_at file f - 1) (e - 1))

-- RULES 6.8, 15: the node where an entry begins is the node where the entry before it ends
unfoldable pub joins : List ℕ → List ℕ → layers.Layer → ℕ → ℕ → ℤ → Bool
joins file t l f e v = equal (first_node file t l v) (last_node file t l (entry_before file f e))

-- RULES 6.8, 17: the area that has to have the entry: of +n line n's right one, of -n its left one (RULES 4.4)
unfoldable pub area_on_hand : List ℕ → List ℕ → layers.Layer → ℤ → ℤ
area_on_hand file t l v = on_hand file t l column.right_area column.left_area v

-- RULES 4.7: slot i of the loop record r, counted from the first slot of record f on, twelve a record
abbrev pub slot_from : ℕ → ℕ → ℕ → ℕ
slot_from f r i = 12 * (r - f) + i

-- RULES 6.8, 13, 15, 17: slot i of the loop record r, of the area `area` whose A is record a, in the loop whose first record is f. A slot
-- that is 0 is no entry (RULES 1.3)
unfoldable pub loop_slot : List ℕ → List ℕ → layers.Layer → ℕ → ℕ → ℕ → ℕ → ℕ → List Check
loop_slot file t l a area f r i =
    check (slot_column loop_entries i) 13 (is_zero (slot_of file (a + 1) (slot_from (a + 1) r i)) || not (repeats_area file a (slot_from (a + 1) r i)))
    ∷ check (slot_column loop_entries i) 15 (is_zero (loop_entry file r i) || joins file t l f (slot_from f r i) (loop_entry file r i))
    ∷ check (slot_column loop_entries i) 17 (is_zero (loop_entry file r i) || is area (area_on_hand file t l (loop_entry file r i)))
    ∷ []

-- ---- the loop

-- RULES 6.8, 16: the first loop is clockwise, above 0; the others, whose serials are below 0, counterclockwise, below 0
unfoldable pub winds : ℤ → ℤ → Bool
winds serial m = cond (natural serial) (lt_z (pos 0) m) (lt_z m (pos 0))

-- RULES 6.8, 16: the measure m of a loop has the sign of its serial; at column 1 of its first record. Entries are left of a loop that has
-- begun
unfoldable pub wind_checks : List ℕ → ℤ → ℕ → ℕ → List Check
wind_checks file m r left = cond (ltb 0 left) [] (check (column_of loop_serial) 16 (winds (value_at file r loop_serial) m) ∷ [])

-- RULES 2.6: the loop's first record: of its `count` entries `left` are left, twelve a record
unfoldable pub first_record : ℕ → ℕ → ℕ → ℕ
first_record r count left = cond (ltb 0 left) (r - (count - left) / 12) r

-- RULES 8.1: the A of the layer's area `area`
unfoldable pub area_record : List ℕ → layers.Layer → ℕ → ℕ
area_record t l area = get_or t (l.area + (area - 1)) 0

-- RULES 6.8: a loop record: its loop, then its twelve slots
unfoldable pub loop_checks : List ℕ → List ℕ → layers.Layer → ℕ → ℕ → ℕ → ℕ → List Check
loop_checks file t l area count left r =
    wind_checks file (loop_measure_in file t l r) r left
    ++ spread 12 (loop_slot file t l (area_record t l area) area (first_record r count left) r)

-- ---- the stage

-- RULES 6.8: record r, due as d, in the layer l; its last area is `area`
abbrev pub area_checks : Due → List ℕ → List ℕ → layers.Layer → ℕ → ℕ → List Check
area_checks (Mesh last) file t l area r = []
area_checks (Layer last) file t l area r = []
area_checks (Node layer last) file t l area r = []
area_checks (Line layer last letters) file t l area r = []
area_checks (Coordinates left) file t l area r = []
area_checks (Area layer last) file t l area r = []
area_checks (Loop last count left) file t l area r = loop_checks file t l area count left r

-- RULES 6.1: stage 5 is judged sixth
abbrev pub sixth : ℕ
sixth = 6

-- RULES 6.8: the record that comes next where the walk stands at x
abbrev pub areas_at : List ℕ → List ℕ → Standing → List Check
areas_at file t x = area_checks (due_of x.state) file t x.layer x.state.layer.area (x.records + 1)

-- RULES 6.8: the whole stage, record by record
unfoldable pub stage_five : List ℕ → List ℕ → Bases → List Rule
stage_five file t b = stage_of sixth (areas_at file t) file t b
