-- The fields and slots that are read alone: each is a field of its kind's layout that gives a number, which antt looks up; and a slot by its number.
-- Assumes nothing.
use mathlib.Core.Bool.{Bool, true, false, ◌&&◌, ◌||◌}
use mathlib.Core.List.{List, [], ◌∷◌}
use mathlib.Core.Logic.{⊎_elim}
use mathlib.Core.Path.{◌≡◌, refl}
use Prim.Native.Nat.{ℕ, zero, suc, ◌+◌, ◌*◌, ◌≤◌, ◌<◌}
use native.Mathlib.Nat.{le_of_suc-le-suc, eq-or-lt_of_le, mul-le-mul}
use native.Mathlib.Omega.{arith}
use lib.Dec.{eqb}
use lib.ListN.{get_or}
use borrow.Author.Tests.{eqb-true, lt-ltb, le-ltb}
use Rattle.fields.proofs.Places.{both}
use Rattle.records.specs.Layout.{layout_of, start_of, width_of, numbers_of}
use Rattle.records.specs.Columns.{Column, column_kind, span_of, Row, row_kind, row_span_of, slot_width, slot_column, slot_start}
use Rattle.records.specs.Columns as name
use Rattle.records.specs.declared.Field.{Field}
use Rattle.records.specs.declared.Field.TheVariants.{Blank}

-- ---- a field of a layout

-- the field starts at column c, is w columns wide, and gives a number to the record's value: it is a number or a code
abbrev gives : ℕ → ℕ → Field → Bool
gives c w f = eqb (start_of f) c && (eqb (width_of f) w && eqb (numbers_of f) 1)

-- one of the fields does
unfoldable has : ℕ → ℕ → List Field → Bool
has c w [] = false
has c w (f ∷ fs) = gives c w f || has c w fs

-- past the end of a layout there is no field; this one has no columns and gives no number
abbrev none : Field
none = Blank 0 0

-- where it stands in the layout
pub record Laid (L : List Field) (c w : ℕ) : Type 0 where
  pub place : ℕ
  pub start : start_of (get_or L place none) ≡ c
  pub width : width_of (get_or L place none) ≡ w
  pub number : numbers_of (get_or L place none) ≡ 1

here : (c w : ℕ) (f : Field) (fs : List Field) → gives c w f ≡ true → Laid (f ∷ fs) c w
here c w f fs e =
    let h = both (eqb (start_of f) c) (eqb (width_of f) w && eqb (numbers_of f) 1) e in
    let k = both (eqb (width_of f) w) (eqb (numbers_of f) 1) h.1 in
    record { place = 0; start = eqb-true _ _ h.0; width = eqb-true _ _ k.0; number = eqb-true _ _ k.1 }

laid_by : (c w : ℕ) (f : Field) (fs : List Field) (b : Bool) → gives c w f ≡ b → (b || has c w fs) ≡ true
    → (has c w fs ≡ true → Laid fs c w) → Laid (f ∷ fs) c w
laid_by c w f fs true e h g = here c w f fs e
laid_by c w f fs false e h g = let l = g h in record { place = suc l.place; start = l.start; width = l.width; number = l.number }

laid : (c w : ℕ) (L : List Field) → has c w L ≡ true → Laid L c w
unfolding has
laid c w [] h = let z : ◌≡◌ {A = ℕ} 0 1 = cc in absurd (omega arith)
laid c w (f ∷ fs) h = laid_by c w f fs (gives c w f) refl h (laid c w fs)

-- RULES 4.1 to 4.7: every field that is read alone is a field of its kind's layout, a number or a code
pub column_laid : (c : Column) → Laid (layout_of (column_kind c)) (span_of c).start (span_of c).width
unfolding has layout_of
column_laid c = laid _ _ (layout_of (column_kind c)) (found c)
  where
    found : (c : Column) → has (span_of c).start (span_of c).width (layout_of (column_kind c)) ≡ true
    found name.mesh_code = refl
    found name.mesh_layers = refl
    found name.mesh_nodes = refl
    found name.mesh_lines = refl
    found name.mesh_areas = refl
    found name.mesh_records = refl
    found name.layer_code = refl
    found name.layer_nodes = refl
    found name.layer_lines = refl
    found name.layer_areas = refl
    found name.layer_records = refl
    found name.node_serial = refl
    found name.node_x = refl
    found name.node_y = refl
    found name.node_frame = refl
    found name.line_serial = refl
    found name.start_node = refl
    found name.start_link = refl
    found name.end_node = refl
    found name.end_link = refl
    found name.left_code = refl
    found name.left_area = refl
    found name.right_code = refl
    found name.right_area = refl
    found name.line_points = refl
    found name.area_code = refl
    found name.area_serial = refl
    found name.area_loops = refl
    found name.area_lines = refl
    found name.loop_serial = refl
    found name.loop_count = refl

-- the first n slots of a row are
unfoldable have_all : Row → List Field → ℕ → Bool
have_all r L zero = true
have_all r L (suc n) = have_all r L n && has (slot_column r n) slot_width L

all_have : (r : Row) (L : List Field) (n i : ℕ) → have_all r L n ≡ true → i < n → has (slot_column r i) slot_width L ≡ true
unfolding have_all
all_have r L zero i h l = absurd (omega arith)
all_have r L (suc n) i h l =
    let b = both (have_all r L n) (has (slot_column r n) slot_width L) h in
    ⊎_elim (λ e. rw e b.1) (λ m. all_have r L n i b.0 m) (eq-or-lt_of_le (le_of_suc-le-suc l))

-- RULES 4.3, 4.5, 4.7: and so is every slot of a row
pub slot_laid : (r : Row) (i : ℕ) → i < (row_span_of r).count → Laid (layout_of (row_kind r)) (slot_column r i) slot_width
unfolding have_all has layout_of
slot_laid r i l = laid _ _ (layout_of (row_kind r)) (all_have r (layout_of (row_kind r)) (row_span_of r).count i (found r) l)
  where
    found : (r : Row) → have_all r (layout_of (row_kind r)) (row_span_of r).count ≡ true
    found name.node_entries = refl
    found name.points_x = refl
    found name.points_y = refl
    found name.loop_entries = refl

-- ---- a slot of a record

module _ (c step n i : ℕ) where
  pub start_past : n ≤ i → slot_start c step n i ≡ 0
  unfolding slot_start
  start_past h = rw (le-ltb i n h)

  pub start_there : i < n → slot_start c step n i ≡ c + step * i
  unfolding slot_start
  start_there h = rw (lt-ltb i n h)

-- two bytes' product is small
pub small_product : {a b : ℕ} → a ≤ 255 → b ≤ 255 → a * b ≤ 65025
small_product p q = mul-le-mul p q
