-- Words stored in a buffer that is made of parts. Assumes nothing.
use mathlib.Core.List.{List, [], ◌∷◌, ◌++◌, append_assoc}
use mathlib.Core.Path.{◌≡◌, refl, ◌∙◌, ap}
use Prim.Native.Nat.{ℕ, zero, suc, ◌+◌, ◌≤◌, ◌<◌}
use native.Mathlib.Nat.{add-suc}
use native.Mathlib.Omega.{arith}
use lib.ListN.{length, drop, set, length-append, length-drop, length-set}
use lib.Seq.{sets, sets-eq, take-append_seam, drop-append-add, drop-drop}
use Rattle.walk.specs.Table.{filled}

set_left : (xs ys : List ℕ) (i v : ℕ) → i < length xs → set (xs ++ ys) i v ≡ set xs i v ++ ys
set_left [] ys i v h = absurd (omega arith)
set_left (x ∷ xs) ys zero v h = refl
set_left (x ∷ xs) ys (suc i) v h = ap (λ (l : List ℕ). x ∷ l) (set_left xs ys i v (omega arith))

set_right : (xs ys : List ℕ) (i v : ℕ) → set (xs ++ ys) (length xs + i) v ≡ xs ++ set ys i v
set_right [] ys i v = ap (λ (j : ℕ). set ys j v) (omega arith)
set_right (x ∷ xs) ys i v = ap (λ (j : ℕ). set (x ∷ (xs ++ ys)) j v) e ∙ ap (λ (l : List ℕ). x ∷ l) (set_right xs ys i v)
  where
    e : suc (length xs) + i ≡ suc (length xs + i)
    e = omega arith

-- stored in the first of two parts
pub sets_left : (ws xs ys : List ℕ) (i : ℕ) → i + length ws ≤ length xs → sets (xs ++ ys) i ws ≡ sets xs i ws ++ ys
sets_left [] xs ys i h = refl
sets_left (w ∷ ws) xs ys i h =
    ap (λ (l : List ℕ). sets l (suc i) ws) (set_left xs ys i w (omega arith))
    ∙ sets_left ws (set xs i w) ys (suc i) (rw length-set (omega arith))

-- stored in the second
pub sets_right : (ws xs ys : List ℕ) (i : ℕ) → sets (xs ++ ys) (length xs + i) ws ≡ xs ++ sets ys i ws
sets_right [] xs ys i = refl
sets_right (w ∷ ws) xs ys i =
    ap (λ (l : List ℕ). sets l (suc (length xs + i)) ws) (set_right xs ys i w)
    ∙ rw (← add-suc (length xs) i) (sets_right ws xs (set ys i w) (suc i))

-- some words more behind those that stand in front
pub more_filled : {A : Type 0} (xs ws d : List A) → length xs + length ws ≤ length d → sets (filled xs d) (length xs) ws ≡ filled (xs ++ ws) d
more_filled xs ws d l =
    sets-eq ws (xs ++ drop (length xs) d) (length xs) (rw (length-append, length-drop) (omega arith))
    ∙ rw (take-append_seam, drop-append-add, drop-drop, length-append, append_assoc)

pub filled_length : {A : Type 0} (xs d : List A) → length xs ≤ length d → length (filled xs d) ≡ length d
filled_length xs d l = rw (length-append, length-drop) (omega arith)
