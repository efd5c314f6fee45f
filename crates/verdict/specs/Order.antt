-- The order of judgement, and what the answer has to be (RULES 6.1: the stages run over the whole file, one after another; in a stage
-- the first record counts, then the least column, then the least number). Assumes nothing.
--   before p q       the place p comes before the place q
--   Answer rs v      v is the answer to the rules rs: the least broken one, or Fine where all are kept
--   Sorted rs        each rule stands before all that follow it
--   rising cs        the same of a record's checks; it computes
use Rattle.std.specs.Prelude.{Bool, true, false, ◌&&◌, ◌||◌, List, [], ◌∷◌, ◌⊎◌, ◌≡◌, ℕ, ltb, eqb, Err, Ok}
use Rattle.verdict.specs.Rules.{Verdict, Fine, Broken, Rule, Check, broken_at}

-- RULES 6.1: by turn, then record, then column, then number
abbrev pub place_of : Rule → List ℕ
place_of r = r.turn ∷ r.row ∷ r.column ∷ r.number ∷ []

abbrev pub before : List ℕ → List ℕ → Bool
before [] [] = false
before [] (y ∷ ys) = false
before (x ∷ xs) [] = false
before (x ∷ xs) (y ∷ ys) = ltb x y || (eqb x y && before xs ys)

abbrev pub In : Rule → List Rule → Type 0
In a [] = ⊥
In a (b ∷ rs) = (a ≡ b) ⊎ In a rs

-- a broken rule that comes before every other broken one
pub record Least (rs : List Rule) (v : Verdict) : Type 0 where
  pub rule : Rule
  pub listed : In rule rs
  pub broken : rule.holds ≡ false
  pub told : v ≡ broken_at rule
  pub least : (b : Rule) → In b rs → b.holds ≡ false → (b ≡ rule) ⊎ (before (place_of rule) (place_of b) ≡ true)

-- RULES 6.1, 13.2: acceptance if all rules are kept; otherwise the first broken rule in the order of judgement is named
abbrev pub Answer : List Rule → Verdict → Type 0
Answer rs (Ok _) = (b : Rule) → In b rs → b.holds ≡ true
Answer rs (Err r) = Least rs (Err r)

abbrev pub Ahead : Rule → List Rule → Type 0
Ahead a [] = Unit {0}
Ahead a (b ∷ rs) = (before (place_of a) (place_of b) ≡ true) × Ahead a rs

abbrev pub Sorted : List Rule → Type 0
Sorted [] = Unit {0}
Sorted (a ∷ rs) = Ahead a rs × Sorted rs

abbrev pub spot_of : Check → List ℕ
spot_of c = c.column ∷ c.number ∷ []

abbrev pub ahead_of : Check → List Check → Bool
ahead_of a [] = true
ahead_of a (b ∷ cs) = before (spot_of a) (spot_of b) && ahead_of a cs

abbrev pub rising : List Check → Bool
rising [] = true
rising (a ∷ cs) = ahead_of a cs && rising cs
