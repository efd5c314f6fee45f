-- An area's records, told by counting, are those at which the walk meets its loops: behind an A the walk has begun none of its loops; a
-- loop's first record leaves all but twelve of its entries, each further one takes twelve away. Assumes nothing.
use mathlib.Core.Bool.{Bool, true, false, false≢true}
use mathlib.Core.List.{List}
use mathlib.Core.Path.{◌≡◌, refl, sym, ◌∙◌, ap, subst}
use Prim.Native.Nat.{ℕ, zero, suc, ◌+◌, ◌*◌, ◌-◌, ◌/◌, ◌<◌, ◌≤◌}
use native.Mathlib.Nat.{add-zero, le_refl}
use native.Mathlib.Omega.{arith}
use lib.Dec.{ltb}
use borrow.Author.Tests.{ltb-true, ltb-false, lt-ltb, le-ltb}
use Rattle.records.specs.View.{record_of, number_in}
use Rattle.rules.specs.declared.Due.{Due}
use Rattle.rules.specs.declared.Due.TheVariants.{Coordinates, Area, Loop}
use Rattle.walk.specs.declared.State.{State}
use Rattle.walk.specs.States.{size_in, due_of, next_for, next_of, state_at, counted_for, counts_at}
use Rattle.walk.specs.Stages.{may_end}
use Rattle.walk.proofs.Walking.{next_entries}
use Rattle.entries.specs.Entries.{records_for, count_at, loops_at, records_to}

-- record k + 1 is an A; behind it and q records more a loop of its area is due
pub record Inside (file : List ℕ) (k q : ℕ) : Type 0 where
  pub last : ℕ
  pub count : ℕ
  pub left : ℕ
  pub due : due_of (state_at file (suc k + q)) ≡ Loop last count left
  pub area : (state_at file (suc k + q)).layer.area ≡ suc (state_at file k).layer.area
  pub layers : (counts_at file (suc k + q)).layers ≡ (counts_at file k).layers

-- no file ends there
not_ended : {file : List ℕ} {k q : ℕ} → Inside file k q → may_end (due_of (state_at file (suc k + q))) ≡ false
not_ended v = rw v.due

-- ---- what is due

-- no points are left before an A
no_points : (s : State) {layer a : ℕ} → due_of s ≡ Area layer a → s.line.points ≡ 0
unfolding due_of
no_points s {layer} {a} h = by (ltb 0 s.line.points) refl
  where
    by : (t : Bool) → ltb 0 s.line.points ≡ t → s.line.points ≡ 0
    by true e = let z : Coordinates s.line.points ≡ Area layer a = rw e at h in cc
    by false e = omega (arith, ltb-false 0 s.line.points e)

due_first : (s : State) → s.line.points ≡ 0 → s.area.entries ≡ 0 → s.area.begun < s.area.loops → due_of s ≡ Loop s.area.begun s.area.count 0
unfolding due_of
due_first s p e l = rw (le-ltb 0 s.line.points (omega arith), le-ltb 0 s.area.entries (omega arith), lt-ltb s.area.begun s.area.loops l)

due_further : (s : State) → s.line.points ≡ 0 → 0 < s.area.entries → due_of s ≡ Loop s.area.begun s.area.count s.area.entries
unfolding due_of
due_further s p l = rw (le-ltb 0 s.line.points (omega arith), lt-ltb 0 s.area.entries l)

module _ (file : List ℕ) where
  -- behind a record that was due as d
  next_state : (p : ℕ) {d : Due} → due_of (state_at file p) ≡ d → state_at file (suc p) ≡ next_for d (state_at file p) (record_of file (suc p))
  unfolding state_at next_of
  next_state p e = rw e

  next_layers : (p : ℕ) {d : Due} → due_of (state_at file p) ≡ d → (counts_at file (suc p)).layers ≡ (counted_for d (counts_at file p) (record_of file (suc p))).layers
  unfolding counts_at
  next_layers p e = rw e

  module _ (k : ℕ) where
    -- behind p records the walk is in the area of record k + 1, and has begun so many loops; of the last so many entries are left
    record Within (p begun left : ℕ) : Type 0 where
      points : (state_at file p).line.points ≡ 0
      loops : (state_at file p).area.loops ≡ loops_at file (suc k)
      begun_is : (state_at file p).area.begun ≡ begun
      left_is : (state_at file p).area.entries ≡ left
      area : (state_at file p).layer.area ≡ suc (state_at file k).layer.area
      layers : (counts_at file p).layers ≡ (counts_at file k).layers

    moved : {p r b c e f : ℕ} → p ≡ r → b ≡ c → e ≡ f → Within p b e → Within r c f
    moved p b e w = rw (← p, ← b, ← e) w

    enter : {layer a : ℕ} → due_of (state_at file k) ≡ Area layer a → Within (suc k) 0 0
    unfolding loops_at number_in size_in
    enter h =
        let e = next_state k h in
        record {
          points = rw e (no_points (state_at file k) h);
          loops = rw e;
          begun_is = rw e;
          left_is = rw e;
          area = rw e (omega arith);
          layers = next_layers k h;
        }

    first_due : {p b : ℕ} → Within p b 0 → b < loops_at file (suc k)
        → due_of (state_at file p) ≡ Loop (state_at file p).area.begun (state_at file p).area.count 0
    first_due {p} w l = due_first (state_at file p) w.points w.left_is (omega (arith, w.begun_is, w.loops))

    further_due : {p b e : ℕ} → Within p b e → 0 < e
        → due_of (state_at file p) ≡ Loop (state_at file p).area.begun (state_at file p).area.count (state_at file p).area.entries
    further_due {p} w l = due_further (state_at file p) w.points (omega (arith, w.left_is))

    to_first : (p b : ℕ) → Within p b 0 → b < loops_at file (suc k) → Within (suc p) (suc b) (count_at file (suc p) - 12)
    unfolding count_at number_in size_in
    to_first p b w l =
        let h = first_due w l in
        let e = next_state p h in
        record {
          points = rw e w.points;
          loops = rw e w.loops;
          begun_is = rw e (omega (arith, w.begun_is));
          left_is = rw e;
          area = rw e w.area;
          layers = next_layers p h ∙ w.layers;
        }

    to_next : (p b e : ℕ) → Within p b e → 0 < e → Within (suc p) b (e - 12)
    to_next p b e w l =
        let h = further_due w l in
        let f = next_state p h ∙ next_entries (state_at file p) (record_of file (suc p)) (omega (arith, w.left_is)) in
        record {
          points = rw f w.points;
          loops = rw f w.loops;
          begun_is = rw f w.begun_is;
          left_is = rw f (omega (arith, w.left_is));
          area = rw f w.area;
          layers = next_layers p h ∙ w.layers;
        }

    -- i further records, with entries left before each
    to_all : (p b e i : ℕ) → 12 * i < e + 12 → Within p b e → Within (p + i) b (e - 12 * i)
    to_all p b e zero l w = moved (omega arith) refl (omega arith) w
    to_all p b e (suc i) l w = moved (omega arith) refl (omega arith) (to_next (p + i) b (e - 12 * i) (to_all p b e i (omega arith) w) (omega arith))

    -- ---- one loop, before whose first record stand x records of the area's other loops

    one_loop : (x b : ℕ) → Within (suc k + x) b 0 → b < loops_at file (suc k) → (i : ℕ) → i < records_for (count_at file (suc (suc k + x))) → Inside file k (x + i)
    unfolding records_for
    one_loop x b w l zero m = rw add-zero (record { last = _; count = _; left = _; due = first_due w l; area = w.area; layers = w.layers })
    one_loop x b w l (suc i) m =
        let p = suc k + x in
        let n = count_at file (suc p) in
        let u = to_all (suc p) (suc b) (n - 12) i (omega arith) (to_first p b w l) in
        let v : Within (suc k + (x + suc i)) (suc b) (n - 12 - 12 * i) = moved (omega arith) refl refl u in
        record { last = _; count = _; left = _; due = further_due v (omega arith); area = v.area; layers = v.layers }

    loop_end : (p b : ℕ) → Within p b 0 → b < loops_at file (suc k) → Within (p + records_for (count_at file (suc p))) (suc b) 0
    unfolding records_for
    loop_end p b w l =
        let n = count_at file (suc p) in
        moved (omega arith) refl (omega arith) (to_all (suc p) (suc b) (n - 12) ((n - 1) / 12) (omega arith) (to_first p b w l))

    -- ---- the first j loops

    module _ (w : Within (suc k) 0 0) where
      loops_end : (j : ℕ) → j ≤ loops_at file (suc k) → Within (suc k + records_to file (suc k) j) j 0
      unfolding records_to
      loops_end zero l = moved (omega arith) refl refl w
      loops_end (suc j) l =
          let e : suc k + 1 + records_to file (suc k) j ≡ suc (suc k + records_to file (suc k) j) = omega arith in
          let c = ap (λ i. records_for (count_at file i)) e in
          moved (omega (arith, c)) refl refl (loop_end (suc k + records_to file (suc k) j) j (loops_end j (omega arith)) (omega arith))

      loops_due : (j : ℕ) → j ≤ loops_at file (suc k) → (q : ℕ) → q < records_to file (suc k) j → Inside file k q
      unfolding records_to
      loops_due zero l q m = absurd (omega arith)
      loops_due (suc j) l q m = by (loops_due j (omega arith) q) (ltb q (records_to file (suc k) j)) refl
        where
          by : (q < records_to file (suc k) j → Inside file k q) → (t : Bool) → ltb q (records_to file (suc k) j) ≡ t → Inside file k q
          by before true t = before (ltb-true _ _ t)
          by before false t =
              let x = records_to file (suc k) j in
              let o = ltb-false q x t in
              let e : suc k + 1 + x ≡ suc (suc k + x) = omega arith in
              let c = ap (λ i. records_for (count_at file i)) e in
              let d : x + (q - x) ≡ q = omega arith in
              subst (Inside file k) d (one_loop x j (loops_end j (omega arith)) (omega arith) (q - x) (omega (arith, c)))

  -- behind the A at record k + 1 the walk meets the records of its loops, as many as they count
  pub inside : (k : ℕ) {layer a : ℕ} → due_of (state_at file k) ≡ Area layer a → (q : ℕ) → q < records_to file (suc k) (loops_at file (suc k)) → Inside file k q
  inside k h q l = loops_due k (enter k h) (loops_at file (suc k)) (le_refl _) q l

  -- a file of n records that may end there has all the records of its areas
  pub complete : (k n : ℕ) {layer a : ℕ} → k < n → may_end (due_of (state_at file n)) ≡ true → due_of (state_at file k) ≡ Area layer a
      → (q : ℕ) → q < records_to file (suc k) (loops_at file (suc k)) → suc k + q < n
  complete k n l e h q m = by (ltb (suc k + q) n) refl
    where
      by : (t : Bool) → ltb (suc k + q) n ≡ t → suc k + q < n
      by true t = ltb-true _ _ t
      by false t =
          let o = ltb-false (suc k + q) n t in
          let d : suc k + (n - suc k) ≡ n = omega arith in
          let f = subst (λ i. may_end (due_of (state_at file i)) ≡ false) d (not_ended (inside k h (n - suc k) (omega arith))) in
          absurd (false≢true (sym f ∙ e))
