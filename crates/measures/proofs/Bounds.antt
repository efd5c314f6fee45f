-- Bounds of signed sums and products by their size, `nat_abs`, and what the machine makes of numbers that fit. Assumes nothing.
use mathlib.Core.Bool.{Bool, true, false, cond}
use mathlib.Core.Path.{◌≡◌, refl}
use Prim.Native.Nat.{ℕ, zero, suc, ◌+◌, ◌*◌, ◌-◌, ◌^◌, ◌≤◌}
use native.Mathlib.Nat.{mul-le-mul}
use native.Mathlib.Omega.{arith}
use lib.Dec.{T, ltb, ltb→lt}
use lib.IntN.{ℤ, pos, negsuc, neg_ℤ, nat_abs, ◌+ℤ◌, ◌-ℤ◌, ◌*ℤ◌, +ℤ_idl}
use lib.Signed.{mag}
use mir.Facts.{to_z-of_z}
use mir.Syntax.{Width}
use mir.Val.{SFits, to_z, of_z, hbits}
use borrow.Author.Tests.{ltb-true}
use Rattle.std.proofs.lemmas.Int.{unsigned_abs-mul}
use Rattle.measures.specs.Walks.{Small}

-- ---- the magnitude

abs_neg : (z : ℤ) → nat_abs (neg_ℤ z) ≡ nat_abs z
abs_neg (pos zero) = refl
abs_neg (pos (suc n)) = refl
abs_neg (negsuc n) = refl

abs_add : (a b : ℤ) → nat_abs (a +ℤ b) ≤ nat_abs a + nat_abs b
abs_add (pos a) (pos b) = omega arith
abs_add (pos a) (negsuc b) = by_less a (suc b) (ltb a (suc b)) refl
  where
    by_less : (a b : ℕ) (t : Bool) → ltb a b ≡ t → nat_abs (cond t (negsuc (b - suc a)) (pos (a - b))) ≤ a + b
    by_less a b true e = omega (arith, ltb-true a b e)
    by_less a b false e = omega arith
abs_add (negsuc a) (pos b) = by_less b (suc a) (ltb b (suc a)) refl
  where
    by_less : (a b : ℕ) (t : Bool) → ltb a b ≡ t → nat_abs (cond t (negsuc (b - suc a)) (pos (a - b))) ≤ b + a
    by_less a b true e = omega (arith, ltb-true a b e)
    by_less a b false e = omega arith
abs_add (negsuc a) (negsuc b) = omega arith

-- a bound on each operation's result
pub mul_small : {a b : ℤ} {m n : ℕ} → Small m a → Small n b → Small (m * n) (a *ℤ b)
mul_small {a} {b} p q = record { small = rw (unsigned_abs-mul a b) (mul-le-mul p.small q.small) }

pub neg_small : {a : ℤ} {m : ℕ} → Small m a → Small m (neg_ℤ a)
neg_small {a} p = record { small = omega (arith, abs_neg a, p.small) }

pub add_small : {a b : ℤ} {m n : ℕ} → Small m a → Small n b → Small (m + n) (a +ℤ b)
add_small {a} {b} p q = record { small = omega (arith, abs_add a b, p.small, q.small) }

pub sub_small : {a b : ℤ} {m n : ℕ} → Small m a → Small n b → Small (m + n) (a -ℤ b)
sub_small p q = add_small p (neg_small q)

-- ---- what fits

mag_le : (z : ℤ) → mag z ≤ nat_abs z
mag_le (pos n) = omega arith
mag_le (negsuc n) = omega arith

pub fits_by : {w : Width} {z : ℤ} {m : ℕ} → Small m z → T (ltb m (2 ^ hbits w)) → SFits w z
fits_by {w} {z} {m} p t = record { sfits = omega (arith, mag_le z, p.small, ltb→lt m (2 ^ hbits w) t) }

-- `0 - x`
pub zero_minus : (z : ℤ) → pos 0 -ℤ z ≡ neg_ℤ z
zero_minus z = +ℤ_idl (neg_ℤ z)

pub small_le : {z : ℤ} {m : ℕ} (n : ℕ) → Small m z → m ≤ n → Small n z
small_le n p h = record { small = omega (arith, p.small) }

-- a small number, read back from its bits
pub read_back : (w : Width) {z : ℤ} {m : ℕ} → Small m z → T (ltb m (2 ^ hbits w)) → to_z w (of_z w z) ≡ z
read_back w p t = to_z-of_z (fits_by p t)
