-- What an answer says of the i32 that was asked about: the number is read back from its bits as it was. Assumes nothing.
use mathlib.Core.Path.{◌≡◌, sym, ap, ◌∙◌}
use Prim.Native.Nat.{ℕ, ◌<◌, ◌^◌}
use lib.IntN.{ℤ}
use lib.Signed.{mag}
use mir.Facts.{to_z-of_z}
use mir.Syntax.{w32}
use mir.Val.{SFits, to_z, of_z, hbits}
use Rattle.permitted.specs.Permitted.{size}

-- a call's answer z, as the next call gets it: a z that fits is read back as it was
pub passed_on : {z x : ℤ} → mag z < 2 ^ hbits w32 → z ≡ x → to_z w32 (of_z w32 z) ≡ x
passed_on h e = to_z-of_z {w = w32} (record { sfits = h }) ∙ e

-- an answer r about a function's own parameter v is the definition's about v
pub own_told : {A : Type 0} (P : ℤ → A) {v : ℤ} {r : A} → SFits w32 v → r ≡ P (to_z w32 (of_z w32 v)) → r ≡ P v
own_told P f h = h ∙ ap P (to_z-of_z f)

-- as a branch has it: the answer is b
pub own_asked : {A : Type 0} (P : ℤ → A) {v : ℤ} {r b : A} → SFits w32 v → r ≡ P (to_z w32 (of_z w32 v)) → r ≡ b → P v ≡ b
own_asked P f h t = sym (own_told P f h) ∙ t

-- the answer n of `size(v)` is v's size
pub sized : {v : ℤ} {n : ℕ} → SFits w32 v → n ≡ size (to_z w32 (of_z w32 v)) → size v ≡ n
sized f e = sym (own_told size f e)
