-- Rules and the first broken one (RULES 6.1). Assumes nothing.
--   Verdict, Fine, Broken n r c   what a stage answers: the rules are kept, or the refusal n at record r, column c
--   Check, Rule         one rule of a record; the same with its turn and record
--   first_broken rs     the first broken rule of the list rs, or Fine
--   is_fine v           the verdict v is Fine
--   block s r cs        the checks cs as rules of turn s at record r
--   rows n g            the lists g 0, g 1, .., g (n - 1), one after the other
--   spread n g          the checks g 0, g 1, .., g (n - 1), one after the other
--   told_of v           the verdict v by the numbers of RULES 6.2
use Rattle.std.specs.Prelude.{Bool, true, false, cond, List, [], ◌∷◌, ◌++◌, ℕ, zero, suc, Result, Ok, Err, ⊤}
use Rattle.verdict.specs.declared.Refusal.{Refusal}

-- RULES 6.1: acceptance, or a refusal with its number, record and column
abbrev pub Verdict : Type 0
Verdict = Result ⊤ Refusal

abbrev pub Fine : Verdict
Fine = Ok tt

abbrev pub Broken : ℕ → ℕ → ℕ → Verdict
Broken n r c = Err (record { number = n; place = r; column = c })

-- a rule at one place: its turn, at which it is judged, its record, column and number, and whether the file keeps it. Stages 1 and 2 have
-- turns 1 and 2, refusal 9 has turn 3, stages 3 to 6 have turns 4 to 7, and what a call asks behind them has turn 8
pub record Rule : Type 0 where
  pub turn : ℕ
  pub row : ℕ
  pub column : ℕ
  pub number : ℕ
  pub holds : Bool

abbrev pub broken_at : Rule → Verdict
broken_at r = Broken r.number r.row r.column

-- RULES 6.1: the first broken rule, and acceptance if no rule is broken
unfoldable pub first_broken : List Rule → Verdict
first_broken [] = Fine
first_broken (r ∷ rs) = cond r.holds (first_broken rs) (broken_at r)

-- whether no rule is broken
abbrev pub is_fine : Verdict → Bool
is_fine (Ok _) = true
is_fine (Err r) = false

-- a rule of one record: its column and number, and whether the record keeps it
pub record Check : Type 0 where
  pub column : ℕ
  pub number : ℕ
  pub holds : Bool

abbrev pub check : ℕ → ℕ → Bool → Check
check c n b = record { column = c; number = n; holds = b }

abbrev pub rule_of : ℕ → ℕ → Check → Rule
rule_of s r c = record { turn = s; row = r; column = c.column; number = c.number; holds = c.holds }

unfoldable pub block : ℕ → ℕ → List Check → List Rule
block s r [] = []
block s r (c ∷ cs) = rule_of s r c ∷ block s r cs

unfoldable pub rows : ℕ → (ℕ → List Rule) → List Rule
rows zero g = []
rows (suc n) g = rows n g ++ g n

-- the checks g 0, g 1, .., g (n - 1) of a record's slots, one after the other
unfoldable pub spread : ℕ → (ℕ → List Check) → List Check
spread zero g = []
spread (suc n) g = spread n g ++ g n

-- RULES 6.1: acceptance is number 0 at 0, 0
abbrev pub told_of : Verdict → Refusal
told_of (Ok _) = record { number = 0; place = 0; column = 0 }
told_of (Err r) = r
