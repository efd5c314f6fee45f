-- The range of a width, by the sign of the value. Assumes nothing.
use mathlib.Core.Bool.{Bool, true, false, ◌&&◌}
use mathlib.Core.Path.{◌≡◌, refl, sym, ◌∙◌}
use Prim.Native.Nat.{ℕ, zero, suc, ◌-◌, ◌^◌, ◌≤◌, ◌<◌}
use native.Mathlib.Nat.{pow-le-pow_right, one-le-pow}
use native.Mathlib.Omega.{arith}
use lib.Dec.{leb, lit<, leb-zero, leb-suc-zero, leb-suc-suc}
use lib.IntN.{ℤ, pos, negsuc, neg_ℤ, nat_abs}
use lib.Signed.{le_z}
use borrow.Author.Tests.{le-leb, leb-true}
use Rattle.fields.specs.Number.{is_width, holds}
use Rattle.fields.proofs.Places.{both}

-- no other widths
no_width_by : (w : ℕ) → (1 ≤ w → w ≤ 6 → ⊥) → (s t : Bool) → leb 1 w ≡ s → leb w 6 ≡ t → s && t ≡ false
no_width_by w n true true p q = absurd (n (leb-true _ _ p) (leb-true _ _ q))
no_width_by w n true false p q = refl
no_width_by w n false t p q = refl

module _ (w : ℕ) (a : w ≡ 1 → ⊥) (b : w ≡ 2 → ⊥) (c : w ≡ 3 → ⊥) (d : w ≡ 4 → ⊥) (e : w ≡ 5 → ⊥) (f : w ≡ 6 → ⊥) where
  pub no_width : is_width w ≡ false
  no_width = no_width_by w (λ p q. omega arith) (leb 1 w) (leb w 6) refl refl

  pub holds_no_width : (v : ℤ) → holds w v ≡ false
  unfolding holds
  holds_no_width v = rw no_width

-- ---- by the sign

low_neg : (k n : ℕ) → le_z (neg_ℤ (pos k)) (negsuc n) ≡ leb (suc n) k
low_neg zero n = sym (leb-suc-zero n)
low_neg (suc k) n = sym (leb-suc-suc n k)

low_pos : (k n : ℕ) → le_z (neg_ℤ (pos k)) (pos n) ≡ true
low_pos zero n = leb-zero n
low_pos (suc k) n = refl

and-true : (b : Bool) → b && true ≡ b
and-true true = refl
and-true false = refl

pub holds_pos : (w n : ℕ) → holds w (pos n) ≡ is_width w && leb n (10 ^ w - 1)
unfolding holds
holds_pos w n = rw (low_pos (10 ^ (w - 1) - 1) n)

pub holds_neg : (w n : ℕ) → holds w (negsuc n) ≡ is_width w && leb (suc n) (10 ^ (w - 1) - 1)
unfolding holds
holds_neg w n = rw (low_neg (10 ^ (w - 1) - 1) n, and-true (leb (suc n) (10 ^ (w - 1) - 1)))

module _ (w n : ℕ) where
  split_pos : holds w (pos n) ≡ true → (is_width w ≡ true) × (leb n (10 ^ w - 1) ≡ true)
  split_pos h = both (is_width w) (leb n (10 ^ w - 1)) (sym (holds_pos w n) ∙ h)

  split_neg : holds w (negsuc n) ≡ true → (is_width w ≡ true) × (leb (suc n) (10 ^ (w - 1) - 1) ≡ true)
  split_neg h = both (is_width w) (leb (suc n) (10 ^ (w - 1) - 1)) (sym (holds_neg w n) ∙ h)

  -- at most 10^w-1, at least -(10^(w-1)-1)
  pub holds_size : holds w (pos n) ≡ true → n < 10 ^ w
  holds_size h = omega (arith, leb-true n (10 ^ w - 1) (split_pos h).1, one-le-pow w 10 (lit< tt))

  pub holds_minus : holds w (negsuc n) ≡ true → suc n < 10 ^ (w - 1)
  holds_minus h = omega (arith, leb-true (suc n) (10 ^ (w - 1) - 1) (split_neg h).1, one-le-pow (w - 1) 10 (lit< tt))

-- the widths that hold a value
width_bounds : (w : ℕ) → is_width w ≡ true → (1 ≤ w) × (w ≤ 6)
width_bounds w h =
    let t = both (leb 1 w) (leb w 6) h in
    (leb-true _ _ t.0, leb-true _ _ t.1)

pub holds_width : (w : ℕ) (v : ℤ) → holds w v ≡ true → (1 ≤ w) × (w ≤ 6)
holds_width w (pos n) h = width_bounds w (split_pos w n h).0
holds_width w (negsuc n) h = width_bounds w (split_neg w n h).0

-- such a value has no more digits than its width, and at most six
pub holds_digits : (w : ℕ) (v : ℤ) → holds w v ≡ true → nat_abs v < 10 ^ w
holds_digits w (pos n) h = holds_size w n h
holds_digits w (negsuc n) h =
    let l : w - 1 ≤ w = omega arith in
    let p : 10 ^ (w - 1) ≤ 10 ^ w = pow-le-pow_right (lit< tt) l in
    omega (arith, holds_minus w n h)

pub holds_small : (w : ℕ) (v : ℤ) → holds w v ≡ true → nat_abs v < 1000000
holds_small w v h =
    let p : 10 ^ w ≤ 10 ^ 6 = pow-le-pow_right (lit< tt) (holds_width w v h).1 in
    omega (arith, holds_digits w v h)

-- the same range as an order of numbers; a wider field holds more
abbrev pub InRange : ℕ → ℤ → Type 0
InRange w (pos n) = n < 10 ^ w
InRange w (negsuc n) = suc n < 10 ^ (w - 1)

pub range_wider : (w k : ℕ) (v : ℤ) → w ≤ k → InRange w v → InRange k v
range_wider w k (pos n) l h = omega (arith, h, pow-le-pow_right {n = 10} (lit< tt) l)
range_wider w k (negsuc n) l h =
    let m : w - 1 ≤ k - 1 = omega arith in
    omega (arith, h, pow-le-pow_right {n = 10} (lit< tt) m)

pub range_holds : (w : ℕ) (v : ℤ) → is_width w ≡ true → InRange w v → holds w v ≡ true
range_holds w (pos n) y h = holds_pos w n ∙ rw (y, le-leb n (10 ^ w - 1) (omega (arith, h)))
range_holds w (negsuc n) y h = holds_neg w n ∙ rw (y, le-leb (suc n) (10 ^ (w - 1) - 1) (omega (arith, h)))
