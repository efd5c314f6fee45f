-- A reader's answer, put together from what its steps found. Assumes nothing.
use mathlib.Core.Bool.{Bool, true, false}
use mathlib.Core.List.{List}
use mathlib.Core.Path.{◌≡◌, ap, ◌∙◌}
use Prim.Native.Nat.{ℕ}
use denote.Bor.{Bor}
use Rattle.std.specs.Prelude.{Option, Some, None, MatchOption}
use Rattle.fields.specs.Number.{number_of, number_at}
use Rattle.fields.specs.Place.{is_inside, bytes_at}
use Rattle.fields.specs.Text.{text_at}

module _ (s : List ℕ) (c w : ℕ) where
  -- t is the answer to whether the field lies inside
  pub number_outside : {t : Bool} → t ≡ is_inside s c w → t ≡ false → None ≡ number_at s c w
  unfolding number_at
  number_outside e n = rw (← e, n)

  -- f are its bytes
  pub number_within : is_inside s c w ≡ true → {f : List ℕ} → f ≡ bytes_at s c w → number_of f ≡ number_at s c w
  unfolding number_at
  number_within i e = rw (e, i)

-- a name, a blank or another text that p judges: o are the field's bytes, and r is the answer
pub text_answer : (p : List ℕ → Bool) (s : List ℕ) (c w : ℕ) (o : Option (Bor (List ℕ))) (r : Bool)
    → MatchOption o (is_inside s c w ≡ false) (λ f. (is_inside s c w ≡ true) × (f.now ≡ bytes_at s c w))
    → MatchOption o (r ≡ false) (λ f. r ≡ p f.now) → r ≡ text_at p s c w
unfolding text_at
text_answer p s c w None r i e = rw i e
text_answer p s c w (Some f) r i e = rw i.0 (e ∙ ap p i.1)
