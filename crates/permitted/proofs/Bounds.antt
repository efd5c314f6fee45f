-- What a permitted value is at most. Assumes nothing.
use mathlib.Core.Bool.{Bool, true, false, ◌&&◌, false≢true}
use mathlib.Core.Path.{◌≡◌, refl, ◌∙◌}
use Prim.Native.Nat.{ℕ, ◌≤◌}
use lib.Dec.{leb}
use lib.IntN.{ℤ}
use borrow.Author.Tests.{leb-true}
use Rattle.permitted.specs.Permitted.{natural, size, within, is_mesh_code}

-- by the answers to the three tests
pub within_most : (low high : ℕ) (v : ℤ) → within low high v ≡ true → size v ≤ high
unfolding within
within_most low high v h = by (natural v) (leb low (size v)) (leb (size v) high) refl h
  where
    by : (a b c : Bool) → leb (size v) high ≡ c → a && (b && c) ≡ true → size v ≤ high
    by true true c e t = leb-true _ _ (e ∙ t)
    by true false c e t = absurd (false≢true t)
    by false b c e t = absurd (false≢true t)

-- RULES 5.1
pub code_most : (v : ℤ) → is_mesh_code v ≡ true → size v ≤ 999999
unfolding is_mesh_code
code_most v h = within_most 100000 999999 v (first (within 100000 999999 v) _ h)
  where
    first : (a b : Bool) → a && b ≡ true → a ≡ true
    first true b e = refl
    first false b e = e
