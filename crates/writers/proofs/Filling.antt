-- The columns that are written from the right: one step of `columns` in a buffer. Assumes nothing.
use mathlib.Core.List.{List, [], ◌∷◌, ◌++◌, append-nil}
use mathlib.Core.Path.{◌≡◌, refl, sym, ap, ◌∙◌}
use Prim.Native.Nat.{ℕ, zero, suc, ◌+◌, ◌-◌, ◌≤◌, ◌<◌}
use native.Mathlib.Nat.{add-suc, add-zero}
use native.Mathlib.Omega.{arith}
use lib.IntN.{ℤ}
use lib.ListN.{length, take, drop, set, replicate, take-append-drop}
use lib.Seq.{drop-cons, take-set-le, drop-set-lt, get_or-set_same, lt-length-set}
use Rattle.fields.specs.Spelling.{last_of, rest_of, columns, left_of, spell}
use Rattle.fields.specs.declared.Left.TheVariants.{Blanks}
use Rattle.fields.specs.declared.Left.{Left}
use Rattle.fields.proofs.Columns.{columns_suc, blanks_front}

pub spell_is : (w : ℕ) (v : ℤ) {l : Left} → l ≡ left_of v → columns w l ≡ spell w v
unfolding spell
spell_is w v e = ap (columns w) e

-- a list from the place of a store on
drop_set_at : (l : List ℕ) (i b : ℕ) → i < length l → drop i (set l i b) ≡ b ∷ drop (suc i) l
drop_set_at l i b h =
    let n : i < suc i = omega arith in
    drop-cons (set l i b) i 0 (lt-length-set l i b h) ∙ rw (get_or-set_same l i b 0 h, drop-set-lt (suc i) l i b n)

-- a store of the last column leaves the same to be reached
pub fill_step : (buf : List ℕ) (at k : ℕ) (l : Left) → 0 < k → at + k ≤ length buf
    → take at buf ++ (columns k l ++ drop (at + k) buf)
    ≡ take at (set buf (at + (k - 1)) (last_of l)) ++ (columns (k - 1) (rest_of l) ++ drop (at + (k - 1)) (set buf (at + (k - 1)) (last_of l)))
fill_step buf at zero l z h = absurd (omega arith)
fill_step buf at (suc k) l z h =
    let e : suc k - 1 ≡ k = omega arith in
    let i : at + k < length buf = omega arith in
    let q : at ≤ at + k = omega arith in
    rw (e, add-suc, columns_suc k l, take-set-le at buf (at + k) (last_of l) q, drop_set_at buf (at + k) (last_of l) i)

pub fill_done : (buf : List ℕ) (at k : ℕ) (l : Left) → k ≤ 0 → take at buf ++ (columns k l ++ drop (at + k) buf) ≡ buf
unfolding columns
fill_done buf at zero l h = rw (add-zero, take-append-drop)
fill_done buf at (suc k) l h = absurd (omega arith)

pub blanks_are : (k : ℕ) → columns k Blanks ≡ replicate k 32
unfolding columns
blanks_are zero = refl
blanks_are (suc k) = sym (append-nil (columns (suc k) Blanks)) ∙ sym (blanks_front k []) ∙ ap (◌∷◌ 32) (append-nil (columns k Blanks) ∙ blanks_are k)
