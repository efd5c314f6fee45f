-- One step of `is_blanks` and of `is_name`, at an index of a list. Assumes nothing.
use mathlib.Core.Bool.{Bool, true, false, cond}
use mathlib.Core.List.{List, [], ◌∷◌}
use mathlib.Core.Path.{◌≡◌, refl}
use Prim.Native.Nat.{ℕ, zero, suc, ◌-◌, ◌≤◌, ◌<◌}
use native.Mathlib.Omega.{arith}
use lib.Dec.{eqb}
use lib.ListN.{length, get_or, take, drop}
use lib.Seq.{take-length}
use borrow.Author.Tests.{eqb-true, eqb-false}
use Rattle.std.specs.Bool.{one_answer}
use Rattle.std.specs.Prelude.{◌↔◌}
use Rattle.fields.specs.Text.{is_blanks, is_pair, is_name}

abbrev AllBlank : List ℕ → Type 0
AllBlank f = (k : ℕ) → k < length f → get_or f k 0 ≡ 32

blank_first : (b : ℕ) (f : List ℕ) → b ≡ 32 → AllBlank f → AllBlank (b ∷ f)
blank_first b f q h zero l = q
blank_first b f q h (suc k) l = h k (omega arith)

each_by : (b : ℕ) (f : List ℕ) → is_blanks f ≡ true ↔ AllBlank f → (t : Bool) → eqb b 32 ≡ t → cond t (is_blanks f) false ≡ true ↔ AllBlank (b ∷ f)
each_by b f ih true e = (λ h. blank_first b f (eqb-true _ _ e) (ih.0 h), λ h. ih.1 (λ k l. h (suc k) (omega arith)))
each_by b f ih false e =
    (λ h. absurd (cc), λ h. absurd (eqb-false _ _ e (h 0 (omega arith))))

-- spaces alone: each byte is one
each_blank : (f : List ℕ) → is_blanks f ≡ true ↔ AllBlank f
unfolding is_blanks
each_blank [] = (λ e k h. absurd (omega arith), λ h. refl)
each_blank (b ∷ f) = each_by b f (each_blank f) (eqb b 32) refl

-- so a test that says the same is it
pub blanks_iff : (f : List ℕ) (r : Bool) → r ≡ true ↔ AllBlank f → r ≡ is_blanks f
blanks_iff f r h = one_answer r (is_blanks f) h (each_blank f)

-- a name by its first two bytes, where r is whether they are a pair; what follows them is cut out so
pub name_pair : (f : List ℕ) (r : Bool) → 2 ≤ length f → r ≡ is_pair (get_or f 0 0) (get_or f 1 0)
    → is_name f ≡ cond r (is_name (take (length f - 2) (drop 2 f))) false
unfolding is_name
name_pair [] r l e = absurd (omega arith)
name_pair (a ∷ []) r l e = absurd (omega arith)
name_pair (a ∷ b ∷ f) r l e =
    let n : suc (suc (length f)) - 2 ≡ length f = omega arith in
    rw (e, n, take-length)

-- and one of less than two bytes, where r is whether there is none
pub name_short : (f : List ℕ) (r : Bool) → length f < 2 → (r ≡ true ↔ (length f ≡ 0)) → r ≡ is_name f
unfolding is_name
name_short [] r l h = h.1 refl
name_short (a ∷ []) true l h = absurd (omega (arith, h.0 refl))
name_short (a ∷ []) false l h = refl
name_short (a ∷ b ∷ f) r l h = absurd (omega arith)
