-- `glances::glance_at` meets its contract: where the digits begin, the law of `AtGlance` says of what there is to be sure, and the code's
-- test is that law's. Assumes nothing.
use mathlib.Core.Bool.{Bool, true, false, not}
use mathlib.Core.Path.{◌≡◌, sym, ◌∙◌, refl}
use Prim.Native.Nat.{◌+◌, ◌-◌, ◌*◌, ℕ}
use lib.Dec.{eqb, lit<}
use borrow.Author.Tests.{eq-eqb, ne_eqb, not-true}
use Rattle.fields.specs.Number.{is_digit}
use Rattle.fields.specs.Ending.{DigitsFrom, EndsIn}
use Rattle.glances.proofs.AtGlance.{Digit, is_digit_lem, passed_digit, bytes, one_digit, next_digit}
use Rattle.glances.proofs.AtGlance.{glimpse_endless, from_4, from_3, from_2, from_1, from_0, from_none}
use Rattle.fields.proofs.Places.{both}
use Rattle.glances.proofs.glance_at.Goals as goal
use Rattle.glances.proofs.glance_at.Goals.{After-from-3, Then-not-is_ascii_digit-2, Then-not-is_ascii_digit-3, Then-not-is_ascii_digit-4, Then-is_ascii_digit-a}

-- a byte b that the code has taken: its number w, and the answer t to whether it is a digit
abbrev Took : ℕ → ℕ → Bool → Type 0
Took b w t = (w ≡ b - 48) × (t ≡ is_digit b) × (t ≡ true)

module _ (a b c d e : ℕ) {w : ℕ} {t : Bool} (k : Took e w t) where
  -- the digits that the code has taken, from the right
  said-4 : DigitsFrom (bytes a b c d e) 4 w
  said-4 = rw k.0 (one_digit a b c d e (passed_digit _ _ k.1 k.2))

  -- and no digit stands before them
  ends-4 : {s : Bool} → s ≡ is_digit d → s ≡ false → EndsIn (bytes a b c d e) 4 w
  ends-4 h n = record { digits = said-4; all = λ q. sym h ∙ n }

  module _ {w₂ : ℕ} {t₂ : Bool} (k₂ : Took d w₂ t₂) where
    said-3 : DigitsFrom (bytes a b c d e) 3 (w + w₂ * 10)
    said-3 = rw k₂.0 (next_digit (bytes a b c d e) 4 _ 10 (lit< tt) refl said-4 (passed_digit _ _ k₂.1 k₂.2))

    ends-3 : {s : Bool} → s ≡ is_digit c → s ≡ false → EndsIn (bytes a b c d e) 3 (w + w₂ * 10)
    ends-3 h n = record { digits = said-3; all = λ q. sym h ∙ n }

    module _ {w₃ : ℕ} {t₃ : Bool} (k₃ : Took c w₃ t₃) where
      said-2 : DigitsFrom (bytes a b c d e) 2 (w + w₂ * 10 + w₃ * 100)
      said-2 = rw k₃.0 (next_digit (bytes a b c d e) 3 _ 100 (lit< tt) refl said-3 (passed_digit _ _ k₃.1 k₃.2))

      ends-2 : {s : Bool} → s ≡ is_digit b → s ≡ false → EndsIn (bytes a b c d e) 2 (w + w₂ * 10 + w₃ * 100)
      ends-2 h n = record { digits = said-2; all = λ q. sym h ∙ n }

      said-1 : {w₄ : ℕ} {t₄ : Bool} → Took b w₄ t₄ → DigitsFrom (bytes a b c d e) 1 (w + w₂ * 10 + w₃ * 100 + w₄ * 1000)
      said-1 k₄ = rw k₄.0 (next_digit (bytes a b c d e) 2 _ 1000 (lit< tt) refl said-2 (passed_digit _ _ k₄.1 k₄.2))

-- the same at the places of the code where it has taken them
at-4 : (c : Then-not-is_ascii_digit-2) → EndsIn (bytes c.args.a c.args.b c.args.c c.args.d c.args.e) 4 c.from-one.result
at-4 c =
    let a = c.args in
    ends-4 a.a a.b a.c a.d a.e (c.from-one.ensures, c.is_ascii_digit.ensures.value, c.if-not-is_ascii_digit.false)
    c.is_ascii_digit-2.ensures.value c.if-not-is_ascii_digit-2.true

at-3 : (c : Then-not-is_ascii_digit-3) → EndsIn (bytes c.args.a c.args.b c.args.c c.args.d c.args.e) 3 (c.from-one.result + c.from.result * 10)
at-3 c =
    let a = c.args in
    ends-3 a.a a.b a.c a.d a.e (c.from-one.ensures, c.is_ascii_digit.ensures.value, c.if-not-is_ascii_digit.false)
    (c.from.ensures, c.is_ascii_digit-2.ensures.value, c.if-not-is_ascii_digit-2.false)
    c.is_ascii_digit-3.ensures.value c.if-not-is_ascii_digit-3.true

at-2 : (c : Then-not-is_ascii_digit-4)
    → EndsIn (bytes c.args.a c.args.b c.args.c c.args.d c.args.e) 2 (c.from-one.result + c.from.result * 10 + c.from-2.result * 100)
at-2 c =
    let a = c.args in
    ends-2 a.a a.b a.c a.d a.e (c.from-one.ensures, c.is_ascii_digit.ensures.value, c.if-not-is_ascii_digit.false)
    (c.from.ensures, c.is_ascii_digit-2.ensures.value, c.if-not-is_ascii_digit-2.false)
    (c.from-2.ensures, c.is_ascii_digit-3.ensures.value, c.if-not-is_ascii_digit-3.false)
    c.is_ascii_digit-4.ensures.value c.if-not-is_ascii_digit-4.true

at-1 : (c : After-from-3)
    → DigitsFrom (bytes c.args.a c.args.b c.args.c c.args.d c.args.e) 1
    (c.from-one.result + c.from.result * 10 + c.from-2.result * 100 + c.from-3.result * 1000)
at-1 c =
    let a = c.args in
    said-1 a.a a.b a.c a.d a.e (c.from-one.ensures, c.is_ascii_digit.ensures.value, c.if-not-is_ascii_digit.false)
    (c.from.ensures, c.is_ascii_digit-2.ensures.value, c.if-not-is_ascii_digit-2.false)
    (c.from-2.ensures, c.is_ascii_digit-3.ensures.value, c.if-not-is_ascii_digit-3.false)
    (c.from-3.ensures, c.is_ascii_digit-4.ensures.value, c.if-not-is_ascii_digit-4.false)

-- the first of five digits
last : (c : Then-is_ascii_digit-a) → Digit c.args.a
last c = is_digit_lem _ (sym c.is_ascii_digit-5.ensures.value ∙ (both c.is_ascii_digit-5.result (not (eqb c.args.a 48)) c.if-is_ascii_digit-a.true).0)

pub returns-then-not-is_ascii_digit : goal.returns-then-not-is_ascii_digit
returns-then-not-is_ascii_digit c = glimpse_endless _ _ _ _ _ (sym c.is_ascii_digit.ensures.value ∙ c.if-not-is_ascii_digit.true)

pub returns-then-not-is_ascii_digit-2 : goal.returns-then-not-is_ascii_digit-2
returns-then-not-is_ascii_digit-2 c =
    c.then_some.ensures ∙ from_4 (at-4 (goal.at.returns-then-not-is_ascii_digit-2 c).Then-not-is_ascii_digit-2)

pub returns-then-not-is_ascii_digit-3 : goal.returns-then-not-is_ascii_digit-3
returns-then-not-is_ascii_digit-3 c =
    c.then_some-then-not-is_ascii_digit-3.ensures ∙ from_3 (at-3 (goal.at.returns-then-not-is_ascii_digit-3 c).Then-not-is_ascii_digit-3)

pub returns-then-not-is_ascii_digit-4 : goal.returns-then-not-is_ascii_digit-4
returns-then-not-is_ascii_digit-4 c =
    c.then_some-then-not-is_ascii_digit-4.ensures ∙ from_2 (at-2 (goal.at.returns-then-not-is_ascii_digit-4 c).Then-not-is_ascii_digit-4)

pub returns-then-a-eq32 : goal.returns-then-a-eq32
returns-then-a-eq32 c = c.then_some-then-a-eq32.ensures ∙ from_1 (at-1 (goal.at.returns-then-a-eq32 c).After-from-3) c.if-a-eq32.true

pub returns-then-is_ascii_digit-a : goal.returns-then-is_ascii_digit-a
returns-then-is_ascii_digit-a c =
    let p = goal.at.returns-then-is_ascii_digit-a c in
    let n = not-true (eqb c.args.a 48) (both c.is_ascii_digit-5.result (not (eqb c.args.a 48)) c.if-is_ascii_digit-a.true).1 in
    rw c.from-then-is_ascii_digit-a.ensures (from_0 (at-1 p.After-from-3) (last p.Then-is_ascii_digit-a) false n)

pub returns : goal.returns
returns c =
    from_none (at-1 (goal.at.returns c).After-from-3) c.if-a-eq32.false _ c.is_ascii_digit-5.ensures.value c.if-is_ascii_digit-a.false
