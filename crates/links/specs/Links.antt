-- Stage 4 (RULES 6.7, refusals 11 to 14): what the numbers of a layer name, and whether both sides say the same. The table t says where
-- lines and areas stand; l is the layer of the record. A check waits where a number that it needs names nothing: 11 speaks for it.
-- Assumes nothing.
--   node_checks ..    of an N's entries: 11, 12, 13
--   line_end_checks ..  of one end of a line: its node number (11, 14) and its link (12)
--   side_checks ..    of one side of a line: its code (12) and its area number (11)
--   point_checks ..   of a line's first and last point (12)
--   entry_checks ..   of a loop record's entries: 11
--   stage_four file t b  all of them, in the order of RULES 6.1; b says where the lines and the areas begin in the table
use Rattle.std.specs.Prelude.{Bool, true, false, cond, ◌&&◌, ◌||◌, not, List, [], ◌∷◌, ◌++◌, ℕ, zero, suc, ◌+◌, ◌-◌, ◌/◌, ◌%◌, eqb, leb, ltb, ℤ, get_or}
use Rattle.records.specs.View.{number_in}
use Rattle.records.specs.Columns.{Column, Span, span_of, number_on, value_at, code_on, slot_column, slot_at}
use Rattle.records.specs.Columns as column
use Rattle.verdict.specs.Rules.{Rule, Check, check, spread}
use Rattle.permitted.specs.Permitted.{natural, size, is_zero, same}
use Rattle.rules.specs.declared.Due.{Due}
use Rattle.rules.specs.declared.Due.TheVariants.{Mesh, Layer, Node, Line, Coordinates, Area, Loop}
use Rattle.walk.specs.States.{due_of}
use Rattle.layers.specs.declared.Bases.{Bases}
use Rattle.layers.specs.declared.Layer as layers
use Rattle.layers.specs.declared.Standing.{Standing}
use Rattle.layers.specs.Naming.{names, names_line, node_of, line_of, area_of}
use Rattle.layers.specs.Standing.{stage_of}

-- ---- numbers

-- the same sign and size
unfoldable pub equal : ℤ → ℤ → Bool
equal a b = same (natural a) (natural b) && eqb (size a) (size b)

-- RULES 1.2: the entry v is +n; or, backwards, -n
unfoldable pub entry_is : Bool → ℕ → ℤ → Bool
entry_is back n v = eqb (size v) n && same back (not (natural v))

-- some of f 0, f 1, .. f (n - 1) is true
unfoldable pub some : ℕ → (ℕ → Bool) → Bool
some zero f = false
some (suc n) f = some n f || f n

-- RULES 6.7, 6.8, 13: slot e of the row of slots f is the same, sign and all, as an earlier one
abbrev pub repeats : (ℕ → ℤ) → ℕ → Bool
repeats f e = some e (λ j. equal (f e) (f j))

-- RULES 4.3, 4.4: a record's own serial: an N's or an L's
abbrev pub serial_in : List ℕ → ℕ → Column → ℕ
serial_in file r c = size (value_at file r c)

-- ---- N

-- RULES 4.3: slot i of an N, of nine
unfoldable pub node_entry : List ℕ → ℕ → ℕ → ℤ
node_entry file r i = slot_at file r column.node_entries i

-- RULES 1.2, 4.4: of the line that the entry v names, the number in the w columns from c on; backwards, that in the x columns from d on
abbrev pub hand_in : List ℕ → List ℕ → layers.Layer → ℕ → ℕ → ℕ → ℕ → ℤ → ℤ
hand_in file t l c w d x v = cond (natural v) (number_in file (line_of t l v) c w) (number_in file (line_of t l v) d x)

-- the same by the names of the fields
abbrev pub on_hand : List ℕ → List ℕ → layers.Layer → Column → Column → ℤ → ℤ
on_hand file t l c d v = hand_in file t l (span_of c).start (span_of c).width (span_of d).start (span_of d).width v

-- RULES 4.4: the node where line v starts or, backwards, ends
unfoldable pub first_node : List ℕ → List ℕ → layers.Layer → ℤ → ℤ
first_node file t l v = on_hand file t l column.start_node column.end_node v

-- RULES 6.7, 12: the line of an entry +n starts at this node, that of -n ends here; it waits where the entry names no line, or that end of
-- the line no node
unfoldable pub meets : List ℕ → List ℕ → layers.Layer → ℕ → ℤ → Bool
meets file t l r v =
    not (names_line l.lines v)
    || (not (names l.nodes (first_node file t l v))
    || eqb (size (first_node file t l v)) (serial_in file r column.node_serial))

-- RULES 6.7, 13: an entry of a node is the same, sign and all, as an earlier one of that node
unfoldable pub repeats_node : List ℕ → ℕ → ℕ → Bool
repeats_node file r i = repeats (node_entry file r) i

-- RULES 6.7, 11 to 13: slot i of an N; a slot that is 0 is empty (RULES 1.3)
unfoldable pub node_slot : List ℕ → List ℕ → layers.Layer → ℕ → ℕ → List Check
node_slot file t l r i =
    check (slot_column column.node_entries i) 11 (is_zero (node_entry file r i) || names_line l.lines (node_entry file r i))
    ∷ check (slot_column column.node_entries i) 12 (is_zero (node_entry file r i) || meets file t l r (node_entry file r i))
    ∷ check (slot_column column.node_entries i) 13 (is_zero (node_entry file r i) || not (repeats_node file r i))
    ∷ []

-- RULES 6.7: an N's nine slots
unfoldable pub node_checks : List ℕ → List ℕ → layers.Layer → ℕ → List Check
node_checks file t l r = spread 9 (node_slot file t l r)

-- ---- L

-- RULES 6.7, 14: the N at record r lists +n, or, backwards, -n
unfoldable pub listed : List ℕ → ℕ → Bool → ℕ → Bool
listed file r back n = some 9 (λ i. entry_is back n (node_entry file r i))

-- RULES 6.7, 12: a link is 0 exactly where its node's frame is 0
unfoldable pub link_fits : ℤ → ℤ → Bool
link_fits link frame = same (is_zero link) (is_zero frame)

-- RULES 6.7, 11, 14, 12: the end of the line at record r whose node number stands in the columns c and whose link stands in the columns k
unfoldable pub line_end_checks : List ℕ → layers.Layer → ℕ → Span → Span → Bool → List Check
line_end_checks file l r c k back =
    check c.start 11 (names l.nodes (number_on file r c))
    ∷ check c.start 14
    (not (names l.nodes (number_on file r c)) || listed file (node_of l (number_on file r c)) back (serial_in file r column.line_serial))
    ∷ check k.start 12
    (not (names l.nodes (number_on file r c))
    || link_fits (number_on file r k) (value_at file (node_of l (number_on file r c)) column.node_frame))
    ∷ []

-- RULES 6.7, 12, 11: the side whose code stands in the columns c and whose area number stands in the columns a: the code is that of its
-- area, by value whatever the marks (RULES 5.7); the area number names an area or is 0
unfoldable pub side_checks : List ℕ → List ℕ → layers.Layer → ℕ → Span → Span → List Check
side_checks file t l r c a =
    check c.start 12
    (not (names l.areas (number_on file r a))
    || equal (code_on file r c) (code_on file (area_of t l (number_on file r a)) (span_of column.area_code)))
    ∷ check a.start 11 (is_zero (number_on file r a) || names l.areas (number_on file r a))
    ∷ []

-- RULES 4.4: start node and its link; end node and its link; left code and area; right code and area
unfoldable pub line_checks : List ℕ → List ℕ → layers.Layer → ℕ → List Check
line_checks file t l r =
    line_end_checks file l r (span_of column.start_node) (span_of column.start_link) false
    ++ (line_end_checks file l r (span_of column.end_node) (span_of column.end_link) true
    ++ (side_checks file t l r (span_of column.left_code) (span_of column.left_area)
    ++ side_checks file t l r (span_of column.right_code) (span_of column.right_area)))

-- ---- coordinates

-- RULES 6.7, 12: pair i of the coordinate record r is where the N that v names stands, by its X and its Y (RULES 4.3, 4.5); it waits where
-- v names none
unfoldable pub at_node : List ℕ → layers.Layer → ℤ → ℕ → ℕ → Bool
at_node file l v r i =
    not (names l.nodes v)
    || (equal (slot_at file r column.points_x i) (value_at file (node_of l v) column.node_x)
    && equal (slot_at file r column.points_y i) (value_at file (node_of l v) column.node_y))

-- RULES 6.7, 12: a line's first point is where its start node is; at that point's X. `left` points are left of the line whose L is record q,
-- this record's among them: the first point is pair 0 where all are left, the last one is pair `left - 1` where no more than seven are
unfoldable pub first_point_checks : List ℕ → layers.Layer → ℕ → ℕ → ℕ → List Check
first_point_checks file l q r left =
    cond (ltb 1 left && eqb left (size (value_at file q column.line_points)))
    (check (slot_column column.points_x 0) 12 (at_node file l (value_at file q column.start_node) r 0) ∷ [])
    []

-- RULES 6.7, 12: its last point is where its end node is
unfoldable pub last_point_checks : List ℕ → layers.Layer → ℕ → ℕ → ℕ → List Check
last_point_checks file l q r left =
    cond (ltb 0 left && leb left 7)
    (check (slot_column column.points_x (left - 1)) 12 (at_node file l (value_at file q column.end_node) r (left - 1)) ∷ [])
    []

-- RULES 6.7, 12: both, by column
unfoldable pub point_checks : List ℕ → layers.Layer → ℕ → ℕ → ℕ → List Check
point_checks file l q r left = first_point_checks file l q r left ++ last_point_checks file l q r left

-- ---- loop records

-- RULES 4.7: slot i of a loop record, of twelve
unfoldable pub loop_entry : List ℕ → ℕ → ℕ → ℤ
loop_entry file r i = slot_at file r column.loop_entries i

-- RULES 4.7: slot e, counted from 0, of the loop records from record f on, twelve a record
unfoldable pub slot_of : List ℕ → ℕ → ℕ → ℤ
slot_of file f e = loop_entry file (f + e / 12) (e % 12)

-- RULES 6.7, 11: each entry of a loop record names a line
unfoldable pub entry_checks : List ℕ → layers.Layer → ℕ → List Check
entry_checks file l r =
    spread 12 (λ i. check (slot_column column.loop_entries i) 11 (is_zero (loop_entry file r i) || names_line l.lines (loop_entry file r i)) ∷ [])

-- ---- the stage

-- RULES 6.7: record r, due as d, in the layer l; `line` lines of the layer came before it
abbrev pub link_checks : Due → List ℕ → List ℕ → layers.Layer → ℕ → ℕ → List Check
link_checks (Mesh last) file t l line r = []
link_checks (Layer last) file t l line r = []
link_checks (Node layer last) file t l line r = node_checks file t l r
link_checks (Line layer last letters) file t l line r = line_checks file t l r
link_checks (Coordinates left) file t l line r = point_checks file l (get_or t (l.line + (line - 1)) 0) r left
link_checks (Area layer last) file t l line r = []
link_checks (Loop last count left) file t l line r = entry_checks file l r

-- RULES 6.1: stage 4 is judged fifth
abbrev pub fifth : ℕ
fifth = 5

-- RULES 6.7: the record that comes next where the walk stands at x
abbrev pub links_at : List ℕ → List ℕ → Standing → List Check
links_at file t x = link_checks (due_of x.state) file t x.layer x.state.layer.line (x.records + 1)

-- RULES 6.7: the whole stage, record by record
unfoldable pub stage_four : List ℕ → List ℕ → Bases → List Rule
stage_four file t b = stage_of fifth (links_at file t) file t b
