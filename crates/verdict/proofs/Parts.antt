-- Rules judged part by part: lists in a row, a record's checks one by one, and a loop that leaves at the first broken rule.
-- Assumes nothing.
use mathlib.Core.Bool.{Bool, true, false, cond, false≢true}
use mathlib.Core.List.{List, [], ◌∷◌, ◌++◌}
use mathlib.Core.Logic.{⊎_elim}
use mathlib.Core.Path.{◌≡◌, refl, sym, ◌∙◌, ap}
use Prim.Native.Nat.{ℕ, zero, suc, ◌+◌, ◌<◌, ◌≤◌}
use native.Mathlib.Nat.{add-zero, add-suc, le_of_suc-le-suc, not-suc-le-zero, eq-or-lt_of_le}
use native.Mathlib.Numerals.{add-one}
use native.Mathlib.Omega.{arith}
use Rattle.std.specs.Prelude.{Ok, Err}
use Rattle.verdict.specs.declared.Refusal.{Refusal}
use Rattle.verdict.specs.Rules.{Verdict, Fine, Broken, Rule, broken_at, first_broken, is_fine, Check, check, block, rows, spread}

-- ---- two lists in a row

-- a verdict is fine or broken, not both
pub fine_broken : {A : Type 0} {v : Verdict} {r : Refusal} → v ≡ Fine → v ≡ Err r → A
fine_broken p q = let e = sym p ∙ q in let z : ◌≡◌ {A = ℕ} 0 1 = cc in absurd (omega arith)

-- as code has it: the answer t to whether v is fine
pub fine_is : (v : Verdict) {t : Bool} → t ≡ is_fine v → t ≡ true → v ≡ Fine
fine_is (Ok _) e h = refl
fine_is (Err r) e h = absurd (false≢true (sym e ∙ h))

-- a, and b where a is fine
infixr 30 ◌or_else◌
abbrev pub ◌or_else◌ : Verdict → Verdict → Verdict
Ok _ or_else b = b
Err r or_else b = Err r

pub in_turn : (xs ys : List Rule) → first_broken (xs ++ ys) ≡ first_broken xs or_else first_broken ys
unfolding first_broken
in_turn [] ys = refl
in_turn (x ∷ xs) ys = go x.holds (in_turn xs ys)
  where
    go : (t : Bool) → first_broken (xs ++ ys) ≡ first_broken xs or_else first_broken ys
        → cond t (first_broken (xs ++ ys)) (broken_at x) ≡ cond t (first_broken xs) (broken_at x) or_else first_broken ys
    go true h = h
    go false h = refl

-- as code has it: the first list's verdict v is broken and is returned
pub stands : (xs ys : List Rule) {v : Verdict} {r : Refusal} → v ≡ Err r → v ≡ first_broken xs → v ≡ first_broken (xs ++ ys)
stands xs ys h e = rw (in_turn xs ys, ← e, h)

-- as code has it: the first list's verdict v is fine, and the second list's, w, is returned
pub goes_on : (xs ys : List Rule) {v w : Verdict} → v ≡ Fine → v ≡ first_broken xs → w ≡ first_broken ys → w ≡ first_broken (xs ++ ys)
goes_on xs ys h e q = rw (in_turn xs ys, ← e, h) q

both_by : (v w : Verdict) → v or_else w ≡ Fine → (v ≡ Fine) × (w ≡ Fine)
both_by (Ok _) w h = (refl, h)
both_by (Err r) w h = fine_broken h refl

-- both are fine
pub both_fine : (xs ys : List Rule) → first_broken (xs ++ ys) ≡ Fine → (first_broken xs ≡ Fine) × (first_broken ys ≡ Fine)
both_fine xs ys h = both_by (first_broken xs) (first_broken ys) (sym (in_turn xs ys) ∙ h)

-- ---- rows: a loop that leaves at the first broken rule

module _ (g : ℕ → List Rule) where
  pub rows_none : first_broken (rows 0 g) ≡ Fine
  unfolding first_broken rows
  rows_none = refl

  -- the verdict v of turn i is fine
  pub rows_pass : (i : ℕ) {v : Verdict} → first_broken (rows i g) ≡ Fine → v ≡ first_broken (g i) → v ≡ Fine → first_broken (rows (i + 1) g) ≡ Fine
  unfolding rows
  rows_pass i h e t = rw (add-one) (in_turn (rows i g) (g i) ∙ rw (h, ← e) t)

  -- and so are the h turns from i on
  pub rows_past : (i h : ℕ) → first_broken (rows i g) ≡ Fine → ((j : ℕ) → j < h → first_broken (g (i + j)) ≡ Fine) → first_broken (rows (i + h) g) ≡ Fine
  unfolding rows
  rows_past i zero f t = rw add-zero f
  rows_past i (suc h) f t = rw add-suc (in_turn (rows (i + h) g) (g (i + h)) ∙ rw (rows_past i h f (λ j l. t j (omega arith)), t h (omega arith)))

  rows_hit : (n i : ℕ) {r : Refusal} → i < n → first_broken (rows i g) ≡ Fine → first_broken (g i) ≡ Err r → first_broken (rows n g) ≡ Err r
  unfolding rows
  rows_hit zero i l h e = absurd (not-suc-le-zero l)
  rows_hit (suc n) i l h e =
      ⊎_elim
      (λ q. in_turn (rows n g) (g n) ∙ rw (← q, h, e))
      (λ q. in_turn (rows n g) (g n) ∙ rw (rows_hit n i q h e))
      (eq-or-lt_of_le (le_of_suc-le-suc l))

  -- the verdict v of turn i is broken and is returned
  pub rows_stop : (n i : ℕ) {v : Verdict} {r : Refusal} → i < n → first_broken (rows i g) ≡ Fine
      → v ≡ first_broken (g i) → v ≡ Err r → v ≡ first_broken (rows n g)
  rows_stop n i l h e t = t ∙ sym (rows_hit n i l h (sym e ∙ t))

  -- all turns were fine
  pub rows_done : (n i : ℕ) → i ≤ n → n ≤ i → first_broken (rows i g) ≡ Fine → Fine ≡ first_broken (rows n g)
  rows_done n i l m h = let e : n ≡ i = omega arith in rw e (sym h)

-- ---- a record's checks, one by one

module _ (s r : ℕ) where
  pub block_append : (xs ys : List Check) → block s r (xs ++ ys) ≡ block s r xs ++ block s r ys
  unfolding block
  block_append [] ys = refl
  block_append (x ∷ xs) ys = rw (block_append xs ys)

  module _ (xs ys : List Check) where
    -- the first checks' verdict v is broken and is returned
    pub part_stops : {v : Verdict} {e : Refusal} → v ≡ Err e → v ≡ first_broken (block s r xs) → v ≡ first_broken (block s r (xs ++ ys))
    part_stops h e = stands (block s r xs) (block s r ys) h e ∙ ap first_broken (sym (block_append xs ys))

    -- it is fine, and the verdict w of the others is returned
    pub part_passes : {v w : Verdict} → v ≡ Fine → v ≡ first_broken (block s r xs) → w ≡ first_broken (block s r ys)
        → w ≡ first_broken (block s r (xs ++ ys))
    part_passes h e q = goes_on (block s r xs) (block s r ys) h e q ∙ ap first_broken (sym (block_append xs ys))

  -- the checks of slots are judged like rows
  pub spread_rows : (n : ℕ) (g : ℕ → List Check) → block s r (spread n g) ≡ rows n (λ i. block s r (g i))
  unfolding spread rows block
  spread_rows zero g = refl
  spread_rows (suc n) g = block_append (spread n g) (g n) ∙ rw (spread_rows n g)

  pub check_none : Fine ≡ first_broken (block s r [])
  unfolding first_broken block
  check_none = refl

  pub check_kept : (c n : ℕ) (b : Bool) (cs : List Check) → b ≡ true → first_broken (block s r (check c n b ∷ cs)) ≡ first_broken (block s r cs)
  unfolding first_broken block
  check_kept c n b cs e = rw e

  pub check_broken : (c n : ℕ) (b : Bool) (cs : List Check) → b ≡ false → first_broken (block s r (check c n b ∷ cs)) ≡ Broken n r c
  unfolding first_broken block
  check_broken c n b cs e = rw e

  -- a check alone that is fine is kept
  pub check_fine : (c n : ℕ) (b : Bool) → first_broken (block s r (check c n b ∷ [])) ≡ Fine → b ≡ true
  check_fine c n true h = refl
  check_fine c n false h = fine_broken h (check_broken c n false [] refl)
