-- Sums of whole numbers over a list. Lines, loops, areas and layers are all summed by this one. Assumes nothing.
--   sum f l          f of each entry of l, added up
--   up_to n           1, 2, .. n
--   sum_to n f        f 1 + f 2 + .. + f n
use Rattle.std.specs.Prelude.{List, [], ◌∷◌, ◌++◌, ℕ, zero, suc, ℤ, pos, ◌+ℤ◌}

unfoldable pub sum : {A : Type 0} → (A → ℤ) → List A → ℤ
sum f [] = pos 0
sum f (x ∷ xs) = f x +ℤ sum f xs

unfoldable pub up_to : ℕ → List ℕ
up_to zero = []
up_to (suc n) = up_to n ++ (suc n ∷ [])

abbrev pub sum_to : ℕ → (ℕ → ℤ) → ℤ
sum_to n f = sum f (up_to n)
