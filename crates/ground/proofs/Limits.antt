-- All sums of a layer are small, in a file that keeps stages 2, 4, 5 and 6: a layer has 9999 lines at most, a line measures 2 * 10^14 at
-- most, and each counts no more than twice, once forwards and once backwards. So 4 * 10^18 is never passed. Assumes nothing.
use mathlib.Core.Bool.{Bool, true, false, cond}
use mathlib.Core.List.{List}
use mathlib.Core.Logic.{⊎_elim}
use mathlib.Core.Path.{◌≡◌}
use Prim.Native.Nat.{ℕ, zero, suc, ◌+◌, ◌*◌, ◌≤◌, ◌<◌}
use native.Mathlib.Nat.{le_of_suc-le-suc, eq-or-lt_of_le}
use native.Mathlib.Omega.{arith}
use lib.Dec.{eqb}
use lib.IntN.{ℤ, pos, neg_ℤ, ◌+ℤ◌}
use Rattle.walk.specs.States.{counts_at}
use Rattle.walk.specs.Stages.{records_of}
use Rattle.walk.specs.Table.{table_of}
use Rattle.layers.specs.Naming.{area_of}
use Rattle.layers.specs.Passing.{layer_of}
use Rattle.measures.specs.Ground.{Known, NoRepeat, listed_in}
use Rattle.measures.specs.Measures.{Entry, plus, minus, loop_measure, area_measure, outside}
use Rattle.measures.specs.Sum.{sum_to}
use Rattle.measures.specs.Walks.{Small}
use Rattle.measures.proofs.Bounds.{add_small, neg_small, small_le}
use Rattle.measures.proofs.Ground.{loop_lines, ground_prefix}
use Rattle.measures.proofs.SumLaws.{sum_to_none, sum_to_more, only, inside}
use Rattle.entries.specs.Entries.{entries_to, records_to, loops_at, slots_of, loops_to}
use Rattle.entries.specs.Keeping.{SoundLayer}
use Rattle.entries.specs.Loops.{measure_of}
use Rattle.entries.proofs.Keeping.{measure_small}
use Rattle.entries.proofs.Rows.{row_known, row_once, loops_row}
use Rattle.loops.specs.Loops.{repeats_area}
use Rattle.ground.specs.Layers.{area_of_layer, left_area_of, right_area_of}
use Rattle.ground.proofs.Soundness.{table_sound}
use Rattle.ground.proofs.Kept.{Passed}
use Rattle.ground.proofs.Standing.{entries_of, areas_entries, kept_listed}
use Rattle.ground.proofs.Grounds.{slots_kept, layer_kept}

-- ---- sums of small numbers

-- no more than so many times the largest
pub sum_small : (n m : ℕ) (f : ℕ → ℤ) → ((i : ℕ) → 0 < i → i ≤ n → Small m (f i)) → Small (n * m) (sum_to n f)
sum_small zero m f h = rw (sum_to_none f) (record { small = omega arith })
sum_small (suc n) m f h =
    let e : n * m + m ≡ suc n * m = omega arith in
    rw (sum_to_more n f, ← e) (add_small (sum_small n m f (λ i p q. h i p (omega arith))) (h (suc n) (omega arith) (omega arith)))

none_small : (m : ℕ) → Small m (pos 0)
none_small m = record { small = omega arith }

only_small : (b : Bool) {m : ℕ} {z : ℤ} → Small m z → Small m (only b z)
only_small true h = h
only_small false h = none_small _

outside_one : (a b : Bool) {m : ℕ} {z : ℤ} → Small m z → Small m (cond a (cond b (pos 0) z) (cond b (neg_ℤ z) (pos 0)))
outside_one true true h = none_small _
outside_one true false h = h
outside_one false true h = neg_small h
outside_one false false h = none_small _

-- ---- the lines of a layer

module _ (n : ℕ) (most : n ≤ 9999) (m : ℕ → ℤ) (small : (i : ℕ) → Small 200000000000000 (m i)) where
  -- lines that count forwards and backwards, or not
  picked_small : (p q : ℕ → Bool) → Small 4000000000000000000 (sum_to n (λ i. only (p i) (m i) +ℤ only (q i) (neg_ℤ (m i))))
  picked_small p q =
      small_le 4000000000000000000
      (sum_small n 400000000000000 _ (λ i _ _. add_small (only_small (p i) (small i)) (only_small (q i) (neg_small (small i)))))
      (omega arith)

  entries_small : (es : List Entry) → Known n es → NoRepeat es → Small 4000000000000000000 (loop_measure m es)
  entries_small es k o = rw (loop_lines n m es k o) (picked_small (λ i. listed_in (plus i) es) (λ i. listed_in (minus i) es))

-- more loops have more records
records_grow : (file : List ℕ) (a j n : ℕ) → j ≤ n → records_to file a j ≤ records_to file a n
unfolding records_to
records_grow file a j zero l =
    let e : j ≡ 0 = omega arith in
    rw e (omega arith)
records_grow file a j (suc n) l =
    ⊎_elim
    (λ e. rw e (omega arith))
    (λ m. omega (arith, records_grow file a j n (le_of_suc-le-suc m)))
    (eq-or-lt_of_le l)

module _ (file : List ℕ) (p : Passed file) (i : ℕ) (l : i < (counts_at file (records_of file)).layers) where
  -- the layer's lines are well formed, and no more than 9999
  sound : SoundLayer file (table_of file) (layer_of file i)
  sound = (table_sound file p.two).layers i l

  line_small : (n : ℕ) → Small 200000000000000 (measure_of file (table_of file) (layer_of file i) n)
  line_small = measure_small file (table_of file) (layer_of file i) sound

  -- an area's first j loops
  pub area_small : (a : ℕ) → 0 < a → a ≤ (layer_of file i).areas → (j : ℕ) → j ≤ loops_at file (area_of (table_of file) (layer_of file i) (pos a))
      → Small 4000000000000000000
      (area_measure (measure_of file (table_of file) (layer_of file i)) (loops_to file (area_of (table_of file) (layer_of file i) (pos a)) j))
  unfolding slots_of repeats_area
  area_small a o m j q =
      let y = layer_of file i in
      let x = area_of (table_of file) y (pos a) in
      let g = records_grow file x j (loops_at file x) q in
      let n = 12 * records_to file x j in
      let kept = slots_kept file p i l a o m in
      rw (loops_row file x (measure_of file (table_of file) y) j)
      (entries_small y.lines sound.few _ line_small (entries_to file (x + 1) n)
      (row_known file (x + 1) n y.lines (λ e r. (kept e (omega arith)).known))
      (row_once file (x + 1) n (λ e r. (kept e (omega arith)).once)))

  -- the layer's first j areas
  pub areas_small : (j : ℕ) → j ≤ (layer_of file i).areas → Small 4000000000000000000 (sum_to j (area_of_layer file (table_of file) (layer_of file i)))
  areas_small j m =
      let t = table_of file in
      let y = layer_of file i in
      let k = kept_listed file t y (layer_kept file p i l) in
      rw (
        areas_entries file t y j,
        ground_prefix y.lines (measure_of file t y) (left_area_of file t y) (right_area_of file t y) y.areas (entries_of file t y) k j m,
      )
      (picked_small y.lines sound.few _ line_small (λ n. inside (right_area_of file t y n) j) (λ n. inside (left_area_of file t y n) j))

  -- the outside sum along its first j lines
  pub outside_small : (j : ℕ) → j ≤ (layer_of file i).lines
      → Small 4000000000000000000
      (sum_to j (λ n.
      outside (left_area_of file (table_of file) (layer_of file i) n) (right_area_of file (table_of file) (layer_of file i) n)
      (measure_of file (table_of file) (layer_of file i) n)))
  outside_small j m =
      let t = table_of file in
      let y = layer_of file i in
      small_le 4000000000000000000
      (sum_small j 200000000000000 _ (λ n _ _. outside_one (eqb (left_area_of file t y n) 0) (eqb (right_area_of file t y n) 0) (line_small n)))
      (omega (arith, sound.few))
