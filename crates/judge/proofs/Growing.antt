-- A list that grows part by part: part i stands behind those before it. Assumes nothing.
use mathlib.Core.List.{List, ◌++◌}
use mathlib.Core.Logic.{⊎_elim}
use mathlib.Core.Path.{◌≡◌, ◌∙◌, subst}
use Prim.Native.Nat.{ℕ, zero, suc, ◌+◌, ◌≤◌, ◌<◌}
use native.Mathlib.Nat.{le_of_suc-le-suc, eq-or-lt_of_le}
use native.Mathlib.Omega.{arith}
use lib.ListN.{length, get_or, length-append, get_or-append}
use lib.Seq.{get_or-append-add}

module _ {A : Type 0} (f g : ℕ → List A) (more : (n : ℕ) → f (suc n) ≡ f n ++ g n) where
  part_within : (n i : ℕ) → i < n → length (f i) + length (g i) ≤ length (f n)
  part_within zero i l = absurd (omega arith)
  part_within (suc n) i l =
      rw (more n, length-append)
      (⊎_elim
      (λ (e : i ≡ n). rw e (omega arith))
      (λ (u : i < n). omega (arith, part_within n i u))
      (eq-or-lt_of_le (le_of_suc-le-suc l)))

  -- entry m of part i
  pub part_at : (d : A) (n i m : ℕ) → i < n → m < length (g i) → get_or (f n) (length (f i) + m) d ≡ get_or (g i) m d
  part_at d zero i m l h = absurd (omega arith)
  part_at d (suc n) i m l h =
      rw (more n)
      (⊎_elim
      (λ (e : i ≡ n). subst (λ (k : ℕ). get_or (f k ++ g k) (length (f i) + m) d ≡ get_or (g i) m d) e (get_or-append-add (f i) (g i) m d))
      (λ (u : i < n). get_or-append (f n) (g n) d (length (f i) + m) (omega (arith, part_within n i u)) ∙ part_at d n i m u h)
      (eq-or-lt_of_le (le_of_suc-le-suc l)))
