-- What a function's answer says of the number it was asked about: a number that fits 32 bits is read back as it was. Assumes nothing.
use mathlib.Core.Bool.{Bool, true, false, beq, false≢true}
use mathlib.Core.Path.{◌≡◌, refl, sym, ◌∙◌, ap}
use Prim.Native.Nat.{suc, ◌<◌, ◌^◌}
use native.Mathlib.Omega.{arith}
use lib.Dec.{eqb}
use lib.IntN.{ℤ, pos, negsuc}
use lib.Signed.{mag}
use mir.Facts.{to_z-of_z}
use mir.Syntax.{w32}
use mir.Val.{SFits, to_z, of_z, hbits}
use borrow.Author.Tests.{eq-eqb, eqb-true}
use Rattle.permitted.specs.Permitted.{same}
use Rattle.permitted.proofs.Signs.{passed_on}
use Rattle.links.specs.Links.{equal}

-- the number z, which fits, is x: the answer r about z is the definition's about x
pub told : {A : Type 0} (P : ℤ → A) {z x : ℤ} {r : A} → mag z < 2 ^ hbits w32 → z ≡ x → r ≡ P (to_z w32 (of_z w32 z)) → r ≡ P x
told P f e h = h ∙ ap P (passed_on f e)

-- as a branch has it: the answer is b
pub asked : {A : Type 0} (P : ℤ → A) {z x : ℤ} {r b : A} → mag z < 2 ^ hbits w32 → z ≡ x → r ≡ P (to_z w32 (of_z w32 z)) → r ≡ b → P x ≡ b
asked P f e h t = sym (told P f e h) ∙ t

-- the same of two numbers
pub told_both : {A : Type 0} (P : ℤ → ℤ → A) {v w x y : ℤ} {r : A} → mag v < 2 ^ hbits w32 → v ≡ x
    → mag w < 2 ^ hbits w32 → w ≡ y → r ≡ P (to_z w32 (of_z w32 v)) (to_z w32 (of_z w32 w)) → P x y ≡ r
told_both P f p g q h = sym (h ∙ rw (passed_on f p, passed_on g q))

-- ---- `==` and the definitions: of two numbers, and of two tests

equal_self : (a : ℤ) → equal a a ≡ true
unfolding equal
equal_self (pos n) = eq-eqb n n refl
equal_self (negsuc n) = eq-eqb (suc n) (suc n) refl

equal_only : (a b : ℤ) → equal a b ≡ true → a ≡ b
unfolding equal
equal_only (pos m) (pos n) h = ap pos (eqb-true m n h)
equal_only (pos m) (negsuc n) h = absurd (false≢true h)
equal_only (negsuc m) (pos n) h = absurd (false≢true h)
equal_only (negsuc m) (negsuc n) h = let e : m ≡ n = omega (arith, eqb-true (suc m) (suc n) h) in ap negsuc e

-- two numbers that fit are compared by their bits
equal_is : {a b : ℤ} → SFits w32 a → SFits w32 b → eqb (of_z w32 a) (of_z w32 b) ≡ equal a b
equal_is {a} {b} f g = by (eqb (of_z w32 a) (of_z w32 b)) (equal a b) refl refl
  where
    by : (s t : Bool) → eqb (of_z w32 a) (of_z w32 b) ≡ s → equal a b ≡ t → s ≡ t
    by true t e h = let q : a ≡ b = sym (to_z-of_z f) ∙ (ap (to_z w32) (eqb-true _ _ e) ∙ to_z-of_z g) in sym (sym h ∙ rw q (equal_self b))
    by false false e h = refl
    by false true e h = let q : a ≡ b = equal_only a b h in absurd (false≢true (sym e ∙ eq-eqb _ _ (rw q refl)))

-- as code has it of two answers
pub compared : {v w x y : ℤ} → mag v < 2 ^ hbits w32 → v ≡ x → mag w < 2 ^ hbits w32 → w ≡ y → eqb (of_z w32 v) (of_z w32 w) ≡ equal x y
compared f p g q = rw (← p, ← q) (equal_is (record { sfits = f }) (record { sfits = g }))

-- `==` of two tests
pub same_is : (a b : Bool) → beq a b ≡ same a b
same_is true true = refl
same_is true false = refl
same_is false true = refl
same_is false false = refl
