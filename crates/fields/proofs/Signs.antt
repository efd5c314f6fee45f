-- What the machine makes of a value's sign. Assumes nothing.
use mathlib.Core.Bool.{Bool, true, false}
use mathlib.Core.Path.{◌≡◌, refl}
use Prim.Native.Nat.{ℕ}
use native.Mathlib.Omega.{arith}
use lib.Dec.{T}
use lib.IntN.{nat_abs, ℤ, pos, negsuc}
use lib.Signed.{lt_z, non_neg}
use mir.Facts.{to_z-of_z, Fits-nat_abs}
use mir.Syntax.{w32}
use mir.Val.{Fits, SFits, to_z, of_z}
use borrow.Author.Tests.{ltb-true}

-- `v < 0`, by the machine's reading of v
module _ (v : ℤ) (f : SFits w32 v) where
  pub is_negative : lt_z (to_z w32 (of_z w32 v)) (pos 0) ≡ true → (m : ℕ) × (v ≡ negsuc m)
  is_negative t = by v (rw (to_z-of_z f) at t)
    where
      by : (v : ℤ) → lt_z v (pos 0) ≡ true → (m : ℕ) × (v ≡ negsuc m)
      by (pos n) t = absurd (omega (arith, ltb-true n 0 t))
      by (negsuc m) t = (m, refl)

  pub is_natural : lt_z (to_z w32 (of_z w32 v)) (pos 0) ≡ false → (n : ℕ) × (v ≡ pos n)
  is_natural t = by v (rw (to_z-of_z f) at t)
    where
      by : (v : ℤ) → lt_z v (pos 0) ≡ false → (n : ℕ) × (v ≡ pos n)
      by (pos n) t = (n, refl)
      by (negsuc m) t =
          let z : ◌≡◌ {A = Bool} true false = t in
          let z' : ◌≡◌ {A = ℕ} 0 1 = cc in
          absurd (omega arith)

  -- `v as u32`
  pub natural_fits : lt_z (to_z w32 (of_z w32 v)) (pos 0) ≡ false → T (non_neg (to_z w32 (of_z w32 v))) × Fits w32 (nat_abs (to_z w32 (of_z w32 v)))
  natural_fits t =
      let n = is_natural t in
      rw (to_z-of_z f) (rw n.1 tt, Fits-nat_abs tt f)
