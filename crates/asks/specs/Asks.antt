-- What stage 2 asks of each number of a record (RULES 4 and 5; refusals 6 and 8), in column order, kind by kind.
-- The columns are those of the layouts, which stand in `records`; here they are named beside each number. Assumes nothing.
--   Ask              a value that has to be permitted (6), or in step (8)
--   mesh_asks .. ns  of an M, and so on: for each of its numbers what is asked of it. ns are the numbers read so far, each in its
--                    place, and 0 elsewhere; nothing is asked of a number that looks at one behind it
--   first_asked      why the first ask that is not kept is refused; fault_number: its refusal number
use Rattle.std.specs.Prelude.{Bool, cond, ◌||◌, List, [], ◌∷◌, ℕ, zero, suc, ◌+◌, ◌/◌, ltb, eqb, ℤ, pos, get_or, Result, Ok, Err, ⊤}
use Rattle.asks.specs.declared.Fault.{Fault}
use Rattle.asks.specs.declared.Fault.TheVariants.{NotPermitted, OutOfStep}
use Rattle.permitted.specs.Permitted.{natural, size, within, is, at_least, is_mesh_code, follows_mesh, is_layer_code, follows_layer, is_date, is_coordinate}
use Rattle.permitted.specs.Permitted.{is_node_item, is_frame, is_line_item, is_line_kind, is_link, is_code, is_side, of_areas, is_area_code, is_slot, is_point, is_next}
use Rattle.permitted.specs.Permitted.{is_loop_serial}

-- RULES 5: 6 for a value that is not permitted; 8 for one that is out of step
pub data Ask : Type 0 where
  permitted : Bool → Ask
  in_step : Bool → Ask

-- number i, counted from 0
abbrev pub at : List ℤ → ℕ → ℤ
at ns i = get_or ns i (pos 0)

-- f i, f (i + 1), .. : n of them
unfoldable pub from : {A : Type 0} → (ℕ → A) → ℕ → ℕ → List A
from f i zero = []
from f i (suc n) = f i ∷ from f (suc i) n

-- RULES 6.4: an N's, L's or A's layer code: 6 where it is neither 1 nor 5, 8 where it is unlike its H's
abbrev pub layer_ask : ℕ → ℤ → List Ask
layer_ask layer v = permitted (is_layer_code v) ∷ in_step (is layer v) ∷ []

-- RULES 5.9: slot i of a record whose slots begin behind d numbers
abbrev pub slot_ask : ℕ → List ℤ → ℕ → ℕ → List Ask
slot_ask count ns d i = permitted (is_slot (ltb i count) (at ns (d + i))) ∷ []

-- RULES 4.1: M, behind the mesh `last`
unfoldable pub mesh_asks : ℕ → List ℤ → List (List Ask)
mesh_asks last ns =
    (permitted (is_mesh_code (at ns 0)) ∷ in_step (follows_mesh last (at ns 0)) ∷ [])  -- 3-8 mesh code
    ∷ (permitted (within 1 2 (at ns 1)) ∷ [])  -- 29-31 layers: 1 or 2
    ∷ (permitted (natural (at ns 2)) ∷ [])  -- 32-36 nodes: 0 or more
    ∷ (permitted (natural (at ns 3)) ∷ [])  -- 37-41 lines
    ∷ (permitted (natural (at ns 4)) ∷ [])  -- 42-46 areas
    ∷ (permitted (is 0 (at ns 5)) ∷ [])  -- 47-51 points: 0
    ∷ (permitted (natural (at ns 6)) ∷ [])  -- 52-56 records
    ∷ []

-- RULES 4.2: H, behind the layer `last`, with these letters: 1 for H1, 2 for H2
unfoldable pub layer_asks : ℕ → ℕ → List ℤ → List (List Ask)
layer_asks last letters ns =
    (permitted (is_layer_code (at ns 0)) ∷ in_step (follows_layer last (at ns 0)) ∷ [])  -- 3-4 layer
    ∷ (permitted (natural (at ns 1)) ∷ [])  -- 5-9 nodes
    ∷ (permitted (within 0 9999 (at ns 2)) ∷ [])  -- 10-14 lines: 0 to 9999
    ∷ (permitted (of_areas letters (at ns 3) (natural (at ns 3))) ∷ [])  -- 15-19 areas: under H1 0
    ∷ (permitted (is 0 (at ns 4)) ∷ [])  -- 20-24 points
    ∷ (permitted (natural (at ns 5)) ∷ [])  -- 25-29 records
    ∷ (permitted (is_date (at ns 6)) ∷ [])  -- 31-34 first made
    ∷ (permitted (is_date (at ns 7)) ∷ [])  -- 36-39 last changed
    ∷ []

-- RULES 4.3: N of a layer, behind `last` nodes
unfoldable pub node_asks : ℕ → ℕ → List ℤ → List (List Ask)
node_asks layer last ns =
    layer_ask layer (at ns 0)  -- 3-4 layer
    ∷ (permitted (is_node_item layer (at ns 1)) ∷ [])  -- 5-6 item
    ∷ (in_step (is_next last (at ns 2)) ∷ [])  -- 7-11 serial
    ∷ (permitted (is_coordinate (at ns 3)) ∷ [])  -- 12-16 X
    ∷ (permitted (is_coordinate (at ns 4)) ∷ [])  -- 17-21 Y
    ∷ (permitted (is_frame (at ns 3) (at ns 4) (at ns 5)) ∷ [])  -- 22-23 frame
    ∷ (permitted (within 1 9 (at ns 6)) ∷ [])  -- 24-25 count: 1 to 9
    ∷ from (slot_ask (size (at ns 6)) ns 7) 0 9  -- 26-70 nine line numbers

-- RULES 4.4: L of a layer with these letters, behind `last` lines
unfoldable pub line_asks : ℕ → ℕ → ℕ → List ℤ → List (List Ask)
line_asks layer last letters ns =
    layer_ask layer (at ns 0)  -- 3-4 layer
    ∷ (permitted (is_line_item layer (at ns 1)) ∷ [])  -- 5-6 item
    ∷ (in_step (is_next last (at ns 2)) ∷ [])  -- 7-11 serial
    ∷ (permitted (is_line_kind layer (at ns 1) (at ns 3)) ∷ [])  -- 12-17 kind
    ∷ []  -- 18-22 start node: any; stage 4 asks whether it names a node
    ∷ (permitted (is_link (at ns 5)) ∷ [])  -- 23 its link
    ∷ []  -- 24-28 end node
    ∷ (permitted (is_link (at ns 7)) ∷ [])  -- 29 its link
    ∷ (permitted (of_areas letters (at ns 8) (is_code layer (at ns 8))) ∷ [])  -- 30-34 left code: under H1 0
    ∷ (permitted (of_areas letters (at ns 9) (is_side (at ns 8) (at ns 9))) ∷ [])  -- 35-39 left area: under H1 0
    ∷ (permitted (of_areas letters (at ns 10) (is_code layer (at ns 10))) ∷ [])  -- 40-44 right code: under H1 0
    ∷ (permitted (of_areas letters (at ns 11) (is_side (at ns 10) (at ns 11))) ∷ [])  -- 45-49 right area: under H1 0
    ∷ (permitted (at_least 2 (at ns 12)) ∷ [])  -- 50-55 points: 2 or more
    ∷ (permitted (is 0 (at ns 13)) ∷ [])  -- 56-57 unused: 0
    ∷ (permitted (is 0 (at ns 14)) ∷ [])  -- 58-60
    ∷ []

-- RULES 4.5: coordinates, where `left` points are left of the line, this record's among them: 1-70 X and Y of seven points
unfoldable pub coordinate_asks : ℕ → List ℤ → List (List Ask)
coordinate_asks left ns = from (λ i. permitted (is_point (ltb (i / 2) left) (at ns i)) ∷ []) 0 14

-- RULES 4.6: A of a layer, behind `last` areas
unfoldable pub area_asks : ℕ → ℕ → List ℤ → List (List Ask)
area_asks layer last ns =
    layer_ask layer (at ns 0)  -- 3-4 layer
    ∷ (permitted (is_area_code layer (at ns 1)) ∷ [])  -- 5-9 code
    ∷ (in_step (is_next last (at ns 2)) ∷ [])  -- 10-14 serial
    ∷ (permitted (is_coordinate (at ns 3)) ∷ [])  -- 15-19 X
    ∷ (permitted (is_coordinate (at ns 4)) ∷ [])  -- 20-24 Y
    ∷ (permitted (at_least 1 (at ns 5)) ∷ [])  -- 25-28 loops: 1 or more
    ∷ (permitted (at_least 1 (at ns 6)) ∷ [])  -- 29-32 lines: 1 or more
    ∷ []

-- which loop of its area a loop record is of, and how many of its entries are left, this record's among them, where `last` loops were
-- begun and `left` entries are left of the last one
abbrev pub loop_due : ℕ → ℕ → ℕ
loop_due last left = cond (ltb 0 left) last (suc last)

abbrev pub entries_due : ℕ → ℕ → ℕ
entries_due count left = cond (ltb 0 left) left count

-- RULES 4.7: loop, behind `last` loops of its area, the last of which counts `count` entries and has `left` left; a later record of a
-- loop repeats its serial and line count
unfoldable pub loop_asks : ℕ → ℕ → ℕ → List ℤ → List (List Ask)
loop_asks last count left ns =
    (in_step (is_loop_serial (loop_due last left) (at ns 0)) ∷ [])  -- 1-5 serial
    ∷ (permitted (at_least 1 (at ns 1)) ∷ in_step (eqb left 0 || is count (at ns 1)) ∷ [])  -- 6-9 line count: 1 or more
    ∷ from (slot_ask (entries_due (size (at ns 1)) left) ns 2) 0 12  -- 10-69 twelve line numbers

-- RULES 6.2: their refusal numbers
abbrev pub fault_number : Fault → ℕ
fault_number NotPermitted = 6
fault_number OutOfStep = 8

-- why the first that is not kept is refused
unfoldable pub first_asked : List Ask → Result ⊤ Fault
first_asked [] = Ok tt
first_asked (permitted b ∷ l) = cond b (first_asked l) (Err NotPermitted)
first_asked (in_step b ∷ l) = cond b (first_asked l) (Err OutOfStep)
