-- What a test on numbers says of the definitions' tests. Assumes nothing.
use mathlib.Core.Bool.{Bool, true, false, ◌&&◌}
use mathlib.Core.Path.{◌≡◌, refl, sym, ◌∙◌}
use Prim.Native.Nat.{ℕ, suc, ◌-◌}
use native.Mathlib.Omega.{arith}
use lib.Dec.{eqb}
use borrow.Author.Tests.{eq-eqb, ne_eqb, eqb-true, eqb-false}

-- n is behind `last` if n - 1 is `last`: arithmetic, since n is not 0
pub eqb_before : (n last : ℕ) → (n ≡ 0 → ⊥) → eqb (n - 1) last ≡ eqb n (suc last)
eqb_before n last h = go (eqb (n - 1) last) refl
  where
    go : (b : Bool) → eqb (n - 1) last ≡ b → eqb (n - 1) last ≡ eqb n (suc last)
    go true e = let q = eqb-true (n - 1) last e in e ∙ sym (eq-eqb n (suc last) (omega arith))
    go false e = e ∙ sym (ne_eqb n (suc last) (λ q. eqb-false (n - 1) last e (omega arith)))

-- and 0 is behind none
pub eqb_zero : (n last : ℕ) → n ≡ 0 → eqb n (suc last) ≡ false
eqb_zero n last h = ne_eqb n (suc last) (λ q. omega arith)

-- beside the test that n is m, g may be asked of either: where the test fails both sides are false
pub either_side : (n m : ℕ) (g : ℕ → Bool) → (eqb n m && g n) ≡ (eqb n m && g m)
either_side n m g = go (eqb n m) refl
  where
    go : (b : Bool) → eqb n m ≡ b → (eqb n m && g n) ≡ (eqb n m && g m)
    go true e = rw (eqb-true n m e)
    go false e = rw e
