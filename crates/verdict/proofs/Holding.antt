-- What rules that are fine say: each list of them is fine, and each check holds. Assumes nothing.
use mathlib.Core.Bool.{Bool, true, false}
use mathlib.Core.List.{List, [], ◌∷◌, ◌++◌}
use mathlib.Core.Logic.{⊎_elim}
use mathlib.Core.Path.{◌≡◌, refl, sym, ◌∙◌}
use Prim.Native.Nat.{ℕ, zero, suc, ◌<◌}
use native.Mathlib.Nat.{le_of_suc-le-suc, eq-or-lt_of_le}
use native.Mathlib.Omega.{arith}
use Rattle.verdict.specs.Rules.{Fine, Rule, first_broken, Check, check, block, rows, spread}
use Rattle.verdict.proofs.Parts.{fine_broken, both_fine, check_kept, check_broken}

-- of lists in a row each is fine
pub row_fine : (g : ℕ → List Rule) (n : ℕ) → first_broken (rows n g) ≡ Fine → (k : ℕ) → k < n → first_broken (g k) ≡ Fine
unfolding rows
row_fine g zero h k l = absurd (omega arith)
row_fine g (suc n) h k l =
    let b = both_fine (rows n g) (g n) h in
    ⊎_elim (λ e. rw e b.1) (λ m. row_fine g n b.0 k m) (eq-or-lt_of_le (le_of_suc-le-suc l))

-- all checks of a list hold
abbrev pub Holding : List Check → Type 0
Holding [] = Unit {0}
Holding (c ∷ cs) = (c.holds ≡ true) × Holding cs

-- those of a record whose rules are fine
module _ (s r : ℕ) where
  first_holds : (c n : ℕ) (b : Bool) (cs : List Check) → first_broken (block s r (check c n b ∷ cs)) ≡ Fine → (b ≡ true) × (first_broken (block s r cs) ≡ Fine)
  first_holds c n true cs h = (refl, sym (check_kept s r c n true cs refl) ∙ h)
  first_holds c n false cs h = fine_broken h (check_broken s r c n false cs refl)

  pub all_hold : (cs : List Check) → first_broken (block s r cs) ≡ Fine → Holding cs
  all_hold [] h = tt
  all_hold (c ∷ cs) h =
      let b = first_holds c.column c.number c.holds cs h in
      (b.0, all_hold cs b.1)

pub both_hold : (xs ys : List Check) → Holding (xs ++ ys) → Holding xs × Holding ys
both_hold [] ys h = (tt, h)
both_hold (x ∷ xs) ys h =
    let b = both_hold xs ys h.1 in
    ((h.0, b.0), b.1)

-- those of each slot
pub slot_holds : (g : ℕ → List Check) (n : ℕ) → Holding (spread n g) → (i : ℕ) → i < n → Holding (g i)
unfolding spread
slot_holds g zero h i l = absurd (omega arith)
slot_holds g (suc n) h i l =
    let b = both_hold (spread n g) (g n) h in
    ⊎_elim (λ e. rw e b.1) (λ m. slot_holds g n b.0 i m) (eq-or-lt_of_le (le_of_suc-le-suc l))
