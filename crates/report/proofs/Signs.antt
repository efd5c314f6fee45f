-- The text of a signed number: its sign and the digits of its magnitude. Assumes nothing.
use Rattle.std.proofs.Common.{◌≡◌, ◌∷◌, ℤ, pos, true, false, refl, arith}
use lib.IntN.{negsuc, nat_abs}
use lib.Signed.{lt_z}
use borrow.Author.Tests.{ltb-true}
use Rattle.report.specs.Texts.{decimal, signed}

-- below 0
pub signed_below : (z : ℤ) → lt_z z (pos 0) ≡ true → 45 ∷ decimal (nat_abs z) ≡ signed z
unfolding signed
signed_below (pos n) h = absurd (omega (arith, ltb-true n 0 h))
signed_below (negsuc n) h = refl

-- 0 or above
pub signed_above : (z : ℤ) → lt_z z (pos 0) ≡ false → decimal (nat_abs z) ≡ signed z
unfolding signed
signed_above (pos n) h = refl
signed_above (negsuc n) h = cc
