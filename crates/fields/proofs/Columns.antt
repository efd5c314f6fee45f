-- The columns of a spelling, from the right: how many they are, and one of them moved. Assumes nothing.
use mathlib.Core.List.{List, ◌∷◌, ◌++◌, append_assoc}
use mathlib.Core.Path.{◌≡◌, refl, sym, ap, ◌∙◌}
use Prim.Native.Nat.{ℕ, zero, suc}
use native.Mathlib.Numerals.{add-one}
use lib.IntN.{ℤ}
use lib.ListN.{length, length-append}
use Rattle.fields.specs.Spelling.{last_of, rest_of, columns, left_of, spell}
use Rattle.fields.specs.declared.Left.TheVariants.{Blanks}
use Rattle.fields.specs.declared.Left.{Left}

pub columns_length : (w : ℕ) (l : Left) → length (columns w l) ≡ w
unfolding columns
columns_length zero l = refl
columns_length (suc w) l = rw (length-append, columns_length w (rest_of l), add-one)

pub spell_length : (w : ℕ) (v : ℤ) → length (spell w v) ≡ w
unfolding spell
spell_length w v = columns_length w (left_of v)

-- the last column, moved to what follows
pub columns_suc : (w : ℕ) (l : Left) (ys : List ℕ) → columns (suc w) l ++ ys ≡ columns w (rest_of l) ++ (last_of l ∷ ys)
unfolding columns
columns_suc w l ys = rw append_assoc

pub blanks_front : (k : ℕ) (ys : List ℕ) → 32 ∷ (columns k Blanks ++ ys) ≡ columns (suc k) Blanks ++ ys
unfolding columns
blanks_front zero ys = refl
blanks_front (suc k) ys = ap (◌∷◌ 32) (columns_suc k Blanks ys) ∙ blanks_front k (32 ∷ ys) ∙ sym (columns_suc (suc k) Blanks ys)
