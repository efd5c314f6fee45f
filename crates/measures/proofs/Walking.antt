-- What the code's walk finds: each step fits, since what it reads as a coordinate is 166665 at most, and the walk's sum is the line's measure
-- by the coordinates so read. Assumes nothing.
use mathlib.Core.List.{List, [], append_assoc}
use mathlib.Core.Path.{◌≡◌, refl, sym, ap, ◌∙◌}
use Prim.Native.Nat.{ℕ, zero, suc, ◌+◌, ◌-◌, ◌*◌, ◌/◌, ◌%◌, ◌≤◌, ◌<◌}
use native.Mathlib.Nat.{add-suc, add-zero}
use native.Mathlib.Numerals.{add-one}
use native.Mathlib.Omega.{arith}
use lib.IntN.{ℤ, pos, negsuc, nat_abs, ◌+ℤ◌, +ℤ_idl}
use mir.Facts.{to_z-of_z}
use mir.Syntax.{w32, w64}
use mir.Val.{SFits, to_z, of_z}
use Rattle.std.specs.Prelude.{Result, Ok, Err}
use Rattle.std.specs.Result.{OkIff, result_unwrap_or}
use Rattle.std.specs.Int.{FitsUnsignedBits}
use Rattle.measures.specs.Measures.{Point, cross, line_measure}
use Rattle.measures.specs.Points.{pair_by, point_by, count_of, point_count, first_of, points_by, measure_by}
use Rattle.measures.specs.Sound.{added_up}
use Rattle.measures.specs.Walks.{Small, Near, far, step_to, walk_along, begin}
use Rattle.measures.specs.declared.Walk.{Walk}
use Rattle.records.specs.View.{record_of, number_in}
use Rattle.records.proofs.Numbers.{number_none}
use Rattle.fields.proofs.FieldLaws.{number_small}
use Rattle.glances.proofs.Remainders.{five_small}
use Rattle.measures.proofs.Bounds.{mul_small, sub_small, add_small, small_le, read_back}
use Rattle.measures.proofs.MeasureLaws.{cross_origin, line_none, line_one, line_more}

-- ---- a coordinate

-- it is small, whatever stands there
pub added_small : (s : List ℕ) (c : ℕ) → Small far (added_up s c)
unfolding added_up
added_small s c = record { small = five_small s c }

-- ---- a step, between points whose coordinates are b at most

cross_small : {b : ℕ} {p q : Point} → Small b p.x → Small b p.y → Small b q.x → Small b q.y → Small (b * b + b * b) (cross p q)
cross_small a b c d = sub_small (mul_small c b) (mul_small a d)

near_step : {b m : ℕ} {w : Walk} {q : Point} → Near b m w → Small b q.x → Small b q.y → Near b (m + (b * b + b * b)) (step_to w q)
near_step n a b = record { sum = add_small n.sum (cross_small n.x n.y a b); x = a; y = b }

-- ---- a walk

more_near : (m n k : ℕ) → m + n * k + k ≡ m + suc n * k
more_near m n k = omega arith

none_near : (m k : ℕ) → m + 0 * k ≡ m
none_near m k = omega arith

pub along_near : {b m : ℕ} {w : Walk} (f : ℕ → Point) (n : ℕ) → ((i : ℕ) → i < n → Small b (f i).x × Small b (f i).y)
    → Near b m w → Near b (m + n * (b * b + b * b)) (walk_along w f n)
unfolding walk_along
along_near {b} {m} f zero h g = rw (none_near m (b * b + b * b)) g
along_near {b} {m} f (suc n) h g =
    let p = h n (omega arith) in
    rw (← more_near m n (b * b + b * b)) (near_step (along_near f n (λ i l. h i (omega arith)) g) p.0 p.1)

pub begin_near : (b : ℕ) → Near b 0 begin
begin_near b = record { sum = record { small = omega arith }; x = record { small = omega arith }; y = record { small = omega arith } }

-- along a record, and along a line
pair_small : (s : List ℕ) (i : ℕ) → Small far (pair_by added_up s i).x × Small far (pair_by added_up s i).y
unfolding pair_by
pair_small s i = (added_small s (1 + 10 * i), added_small s (6 + 10 * i))

pub record_near : {m : ℕ} {w : Walk} (s : List ℕ) → Near far m w → (n : ℕ) → Near far (m + n * 55554444450) (walk_along w (pair_by added_up s) n)
record_near s g n = along_near (pair_by added_up s) n (λ i l. pair_small s i) g

point_small : (file : List ℕ) (r i : ℕ) → Small far (point_by added_up file r i).x × Small far (point_by added_up file r i).y
unfolding point_by
point_small file r i = pair_small (record_of file (r + 1 + i / 7)) (i % 7)

pub line_near : (file : List ℕ) (r n : ℕ) → Near far (n * 55554444450) (walk_along begin (point_by added_up file r) n)
line_near file r n =
    let z : 0 + n * 55554444450 ≡ n * 55554444450 = omega arith in
    rw z at (along_near (point_by added_up file r) n (λ i l. point_small file r i) (begin_near far))

pub near_le : {b m : ℕ} {w : Walk} (n : ℕ) → Near b m w → m ≤ n → Near b n w
near_le n g h = record { sum = small_le n g.sum h; x = g.x; y = g.y }

-- one point more, as the code's turn goes
pub along_next : (w : Walk) (f : ℕ → Point) (n : ℕ) → step_to (walk_along w f n) (f n) ≡ walk_along w f (n + 1)
unfolding walk_along
along_next w f n = rw add-one

-- the points behind the first d
along_more : (w : Walk) (f : ℕ → Point) (d n : ℕ) → walk_along w f (d + n) ≡ walk_along (walk_along w f d) (λ i. f (d + i)) n
unfolding walk_along
along_more w f d zero = rw add-zero
along_more w f d (suc n) = rw (add-suc, along_more w f d n)

along_ext : (w : Walk) (f g : ℕ → Point) (n : ℕ) → ((i : ℕ) → i < n → f i ≡ g i) → walk_along w f n ≡ walk_along w g n
unfolding walk_along
along_ext w f g zero h = refl
along_ext w f g (suc n) h = rw (along_ext w f g n (λ i l. h i (omega arith)), h n (omega arith))

module _ (read : List ℕ → ℕ → ℤ) (file : List ℕ) (r : ℕ) where
  -- a line's points q records on are that record's
  points_of : (q i : ℕ) → i < 7 → point_by read file r (7 * q + i) ≡ pair_by read (record_of file (r + 1 + q)) i
  unfolding point_by
  points_of q i h =
      let d : (7 * q + i) / 7 ≡ q = omega arith in
      let m : (7 * q + i) % 7 ≡ i = omega arith in
      rw (d, m)

  -- on along the next record
  line_next : (q n : ℕ) → n ≤ 7
      → walk_along (walk_along begin (point_by read file r) (7 * q)) (pair_by read (record_of file (r + 1 + q))) n
      ≡ walk_along begin (point_by read file r) (7 * q + n)
  line_next q n h =
      sym (along_more begin (point_by read file r) (7 * q) n
      ∙ along_ext _ (λ i. point_by read file r (7 * q + i)) (pair_by read (record_of file (r + 1 + q))) n (λ i l. points_of q i (omega arith)))

-- ---- the line's count

-- as the code has it: the number z as a usize, and 0 where it is below 0
counted : (z : ℤ) {E : Type 0} (t : Result ℕ E) → nat_abs z < 1000000 → OkIff t (FitsUnsignedBits 64 z) (nat_abs z) → result_unwrap_or t 0 ≡ count_of z
counted (pos n) (Ok x) l h = h.1
counted (pos n) (Err e) l h = absurd (h (omega arith))
counted (negsuc n) (Ok x) l h = absurd h.0
counted (negsuc n) (Err e) l h = refl

-- of the number v that stands there
pub count_is : (file : List ℕ) (r : ℕ) {v : ℤ} {E : Type 0} (t : Result ℕ E) → SFits w32 v → v ≡ number_in file r 50 6
    → OkIff t (FitsUnsignedBits 64 (to_z w32 (of_z w32 v))) (nat_abs (to_z w32 (of_z w32 v))) → result_unwrap_or t 0 ≡ point_count file r
unfolding point_count number_in
count_is file r {v} t f e h =
    let l : nat_abs v < 1000000 = rw e (number_small (record_of file r) 50 6) in
    counted v t l (rw (to_z-of_z f) at h) ∙ rw e

-- ---- the walk's sum is the line's measure

walk_measure : (f : ℕ → Point) (n : ℕ) → (walk_along begin f n).sum ≡ line_measure (first_of f n)
unfolding walk_along first_of
walk_measure f zero = sym line_none
walk_measure f (suc zero) = rw (cross_origin (f 0), +ℤ_idl) (sym (line_one (f 0)))
walk_measure f (suc (suc n)) =
    rw append_assoc (ap (λ z. z +ℤ cross (f n) (f (suc n))) (walk_measure f (suc n)) ∙ sym (line_more (first_of f n) (f n) (f (suc n))))

-- ---- no line at all

pub measure_none : (read : List ℕ → ℕ → ℤ) (file : List ℕ) (r : ℕ) → record_of file r ≡ [] → measure_by read file r ≡ pos 0
unfolding measure_by points_by point_count first_of
measure_none read file r h = rw (number_none file r 50 6 h) line_none

pub measure_is : (read : List ℕ → ℕ → ℤ) (file : List ℕ) (r : ℕ) {n : ℕ}
    → n ≡ point_count file r → (walk_along begin (point_by read file r) n).sum ≡ measure_by read file r
unfolding measure_by points_by
measure_is read file r e = rw e (walk_measure (point_by read file r) (point_count file r))

-- ---- from record to record

-- a turn of the code's loop: the record behind k takes `part` of what is left
pub turn : (read : List ℕ → ℕ → ℤ) (file : List ℕ) (line n left k part : ℕ) → line ≤ k → left ≤ n → part ≤ left → part ≤ 7 → n - left ≡ 7 * (k - line)
    → {w w' : Walk} {s : List ℕ} → w ≡ walk_along begin (point_by read file line) (n - left) → s ≡ record_of file (k + 1) → w' ≡ walk_along w (pair_by read s) part
    → w' ≡ walk_along begin (point_by read file line) (n - (left - part))
turn read file line n left k part a b c d e p q r =
    let i : k + 1 ≡ line + 1 + (k - line) = omega arith in
    let j : n - (left - part) ≡ 7 * (k - line) + part = omega arith in
    r ∙ rw (p, q, i, e, j) (line_next read file line (k - line) part d)

-- the sum, as the machine gives it back
pub sum_back : (file : List ℕ) (r n : ℕ) → n ≤ 999999 → {w : Walk} → w ≡ walk_along begin (point_by added_up file r) n
    → to_z w64 (of_z w64 w.sum) ≡ (walk_along begin (point_by added_up file r) n).sum
sum_back file r n h e = rw e (read_back w64 (small_le 60000000000000000 (line_near file r n).sum (omega arith)) tt)

-- ---- how many points a line can count, whatever stands in the file

count_le_of : (v : ℤ) → nat_abs v < 1000000 → count_of v ≤ 999999
count_le_of (pos n) h = omega arith
count_le_of (negsuc n) h = omega arith

pub count_le : (file : List ℕ) (r : ℕ) → point_count file r ≤ 999999
unfolding point_count number_in
count_le file r = count_le_of (number_in file r 50 6) (number_small (record_of file r) 50 6)
