-- NO GROUND IS LOST in a layer that keeps rules 11, 13, 17 and 18: every area lists its own entries, each once, and no others, so the
-- areas measure as much as the outside sum. Without 13, 17 or 18 it cannot be had (must-fail/). Assumes nothing.
use mathlib.Core.Bool.{Bool, true, false, cond, ◌||◌}
use mathlib.Core.List.{List}
use mathlib.Core.Path.{◌≡◌, refl, ◌∙◌, subst}
use Prim.Native.Nat.{ℕ, ◌+◌, ◌≤◌, ◌<◌}
use native.Mathlib.Omega.{arith}
use lib.Dec.{eqb}
use lib.IntN.{ℤ, pos, negsuc}
use Rattle.verdict.proofs.Orders.{and_both}
use Rattle.permitted.specs.Permitted.{natural, size, is, is_zero}
use Rattle.layers.specs.declared.Layer.{Layer}
use Rattle.layers.specs.Naming.{names_line, line_of, area_of}
use Rattle.measures.specs.Ground as ground
use Rattle.measures.specs.Ground.{Listed}
use Rattle.measures.specs.Measures.{Entry, plus, minus, loop_measure}
use Rattle.measures.specs.Sum.{sum_to}
use Rattle.measures.proofs.Ground.{ground_kept}
use Rattle.measures.proofs.SumLaws.{sum_to_ext}
use Rattle.entries.specs.Entries.{slot_of, entries_to, slots_of}
use Rattle.entries.specs.Loops.{measure_of}
use Rattle.entries.proofs.Rows.{row_known, row_own, row_there, row_once, area_row}
use Rattle.loops.specs.Loops.{repeats_area, area_on_hand}
use Rattle.sides.specs.Sides.{lists}
use Rattle.ground.specs.Layers.{area_of_layer, areas_sum, left_area_of, right_area_of, outside_sum}
use Rattle.ground.specs.Standing.{LineKept, LayerKept}

-- the entries of the layer's area a
abbrev pub entries_of : List ℕ → List ℕ → Layer → ℕ → List Entry
entries_of file t l a = entries_to file (area_of t l (pos a) + 1) (slots_of file (area_of t l (pos a)))

-- the first j areas measure what their entries do
pub areas_entries : (file t : List ℕ) (l : Layer) (j : ℕ)
    → sum_to j (area_of_layer file t l) ≡ sum_to j (λ a. loop_measure (measure_of file t l) (entries_of file t l a))
unfolding area_of_layer
areas_entries file t l j = sum_to_ext j (area_of_layer file t l) _ (λ a _ _. area_row file t l (area_of t l (pos a)))

-- ---- 17 and 18

-- a number that is a has its size
sized : (z : Bool) (a : ℕ) (v : ℤ) → (z || is a v) ≡ true → (z || eqb (size v) a) ≡ true
sized true a v h = refl
sized false a v h = (and_both (natural v) (eqb (size v) a) h).1

-- the area on the entry's right hand is a
slot_own : (file t : List ℕ) (l : Layer) (a : ℕ) (v : ℤ) → (is_zero v || is a (area_on_hand file t l v)) ≡ true
    → (is_zero v || eqb (cond (natural v) (right_area_of file t l (size v)) (left_area_of file t l (size v))) a) ≡ true
unfolding area_on_hand right_area_of left_area_of line_of names_line
slot_own file t l a (pos n) h = sized (is_zero (pos n)) a (area_on_hand file t l (pos n)) h
slot_own file t l a (negsuc n) h = sized (is_zero (negsuc n)) a (area_on_hand file t l (negsuc n)) h

-- an entry of area a, by its line's side
there : (file t : List ℕ) (l : Layer) (a : ℕ) → 0 < a → ((n : ℕ) → 0 < n → n ≤ l.lines → LineKept file t l n)
    → ground.Present l.lines (left_area_of file t l) (right_area_of file t l) a (entries_of file t l a)
unfolding lists
there file t l a o h (plus n) d e =
    let k = h n d.0 d.1 in
    row_there file _ _ false n d.0 (subst (λ (b : ℕ). lists file (area_of t l (pos b)) false n ≡ true) e (k.right_lists (omega (arith, e))))
there file t l a o h (minus n) d e =
    let k = h n d.0 d.1 in
    row_there file _ _ true n d.0 (subst (λ (b : ℕ). lists file (area_of t l (pos b)) true n ≡ true) e (k.left_lists (omega (arith, e))))

-- ---- a layer

module _ (file t : List ℕ) (l : Layer) (k : LayerKept file t l) where
  -- an area's entries are its own, all of them and each once
  pub kept_listed : (a : ℕ) → 0 < a → a ≤ l.areas → Listed l.lines (left_area_of file t l) (right_area_of file t l) a (entries_of file t l a)
  unfolding repeats_area
  kept_listed a o m =
      let x = area_of t l (pos a) in
      let g = k.slots a o m in
      record {
        known = row_known file (x + 1) (slots_of file x) l.lines (λ e m. (g e m).known);
        once = row_once file (x + 1) (slots_of file x) (λ e m. (g e m).once);
        own = row_own file (x + 1) (slots_of file x) (left_area_of file t l) (right_area_of file t l) a
            (λ e m. slot_own file t l a (slot_of file (x + 1) e) (g e m).own);
        present = there file t l a o k.lines;
      }

  -- the sum of all areas' measures is the outside sum
  pub layer_ground : areas_sum file t l ≡ outside_sum file t l
  unfolding areas_sum outside_sum
  layer_ground =
      areas_entries file t l l.areas
      ∙ ground_kept l.lines (measure_of file t l) (left_area_of file t l) (right_area_of file t l) l.areas (entries_of file t l) kept_listed
      (λ n o m. let s = k.lines n o m in (s.left, s.right))
