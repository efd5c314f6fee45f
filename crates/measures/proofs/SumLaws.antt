-- THE LAWS OF SUMS, over any list and any f: what every total of lines, loops, areas and layers is turned about by. Assumes nothing.
use mathlib.Core.Bool.{Bool, true, false, cond, not, ◌&&◌}
use mathlib.Core.List.{List, [], ◌∷◌, ◌++◌, map, reverse, reverse-cons, flatten}
use mathlib.Core.Path.{◌≡◌, refl, sym, ◌∙◌, ap₂}
use Prim.Native.Nat.{ℕ, zero, suc, ◌≤◌, ◌<◌}
use native.Mathlib.Omega.{arith}
use lib.Dec.{eqb, leb}
use lib.IntN.{ℤ, pos, neg_ℤ, ◌+ℤ◌, +ℤ_assoc, +ℤ_comm, +ℤ_idl, +ℤ_idr, neg_ℤ-+ℤ}
use borrow.Author.Tests.{leb-true, leb-false, eqb-true, eqb-false, ne_eqb, le-leb, lt-leb}
use Rattle.measures.specs.Sum.{sum, up_to, sum_to}

-- ---- over a list

swap : (a b c d : ℤ) → (a +ℤ b) +ℤ (c +ℤ d) ≡ (a +ℤ c) +ℤ (b +ℤ d)
swap a b c d = simp +ℤ_assoc (rw (← +ℤ_assoc b c d, +ℤ_comm b c, +ℤ_assoc c b d))

module _ {A : Type 0} where
  -- two lists in a row
  pub sum_append : (f : A → ℤ) (l r : List A) → sum f (l ++ r) ≡ sum f l +ℤ sum f r
  unfolding sum
  sum_append f [] r = sym (+ℤ_idl (sum f r))
  sum_append f (x ∷ l) r = rw (sum_append f l r) (sym (+ℤ_assoc (f x) (sum f l) (sum f r)))

  -- lists in a row
  pub sum_concat : (f : A → ℤ) (ls : List (List A)) → sum f (flatten ls) ≡ sum (λ l. sum f l) ls
  unfolding sum flatten
  sum_concat f [] = refl
  sum_concat f (l ∷ ls) = sum_append f l (flatten ls) ∙ rw (sum_concat f ls)

  -- the order does not count
  pub sum_reverse : (f : A → ℤ) (l : List A) → sum f (reverse l) ≡ sum f l
  unfolding sum
  sum_reverse f [] = refl
  sum_reverse f (x ∷ l) = rw (reverse-cons x l, sum_append, sum_reverse f l, +ℤ_idr) (+ℤ_comm (sum f l) (f x))

  -- equal terms, equal sums
  pub sum_ext : (f g : A → ℤ) → ((x : A) → f x ≡ g x) → (l : List A) → sum f l ≡ sum g l
  unfolding sum
  sum_ext f g h [] = refl
  sum_ext f g h (x ∷ l) = ap₂ ◌+ℤ◌ (h x) (sum_ext f g h l)

  pub sum_zero : (l : List A) → sum (λ x. pos 0) l ≡ pos 0
  unfolding sum
  sum_zero [] = refl
  sum_zero (x ∷ l) = rw (sum_zero l)

  pub sum_neg : (f : A → ℤ) (l : List A) → sum (λ x. neg_ℤ (f x)) l ≡ neg_ℤ (sum f l)
  unfolding sum
  sum_neg f [] = refl
  sum_neg f (x ∷ l) = rw (sum_neg f l) (sym (neg_ℤ-+ℤ (f x) (sum f l)))

  pub sum_add : (f g : A → ℤ) (l : List A) → sum (λ x. f x +ℤ g x) l ≡ sum f l +ℤ sum g l
  unfolding sum
  sum_add f g [] = refl
  sum_add f g (x ∷ l) = rw (sum_add f g l) (swap (f x) (g x) (sum f l) (sum g l))

module _ {A B : Type 0} where
  pub sum_map : (f : B → ℤ) (g : A → B) (l : List A) → sum f (map g l) ≡ sum (λ x. f (g x)) l
  unfolding sum
  sum_map f g [] = refl
  sum_map f g (x ∷ l) = rw (sum_map f g l)

  -- a sum of sums, either way round
  pub sum_exchange : (f : A → B → ℤ) (l : List A) (r : List B) → sum (λ x. sum (λ y. f x y) r) l ≡ sum (λ y. sum (λ x. f x y) l) r
  unfolding sum
  sum_exchange f [] r = sym (sum_zero r)
  sum_exchange f (x ∷ l) r = rw (sum_exchange f l r) (sym (sum_add (λ y. f x y) (λ y. sum (λ x. f x y) l) r))

-- ---- over 1, 2, .. n

pub sum_to_none : (f : ℕ → ℤ) → sum_to 0 f ≡ pos 0
unfolding sum up_to
sum_to_none f = refl

pub sum_to_more : (n : ℕ) (f : ℕ → ℤ) → sum_to (suc n) f ≡ sum_to n f +ℤ f (suc n)
unfolding sum up_to
sum_to_more n f = sum_append f (up_to n) (suc n ∷ []) ∙ rw (+ℤ_idr (f (suc n)))

-- terms that are equal within 1 to n
pub sum_to_ext : (n : ℕ) (f g : ℕ → ℤ) → ((i : ℕ) → 0 < i → i ≤ n → f i ≡ g i) → sum_to n f ≡ sum_to n g
sum_to_ext zero f g h = sum_to_none f ∙ sym (sum_to_none g)
sum_to_ext (suc n) f g h =
    rw (sum_to_more n f, sum_to_more n g) (ap₂ ◌+ℤ◌ (sum_to_ext n f g (λ i p q. h i p (omega arith))) (h (suc n) (omega arith) (omega arith)))

-- k is one of 1 to n
abbrev pub inside : ℕ → ℕ → Bool
inside k n = leb 1 k && leb k n

-- z where b holds, and else nothing
abbrev pub only : Bool → ℤ → ℤ
only b z = cond b z (pos 0)

-- nothing is one of none
pub inside_none : (k : ℕ) → inside k 0 ≡ false
inside_none zero = refl
inside_none (suc k) = rw (le-leb 1 (suc k) (omega arith), lt-leb (suc k) 0 (omega arith))

-- up to k, only 0 is none of 1 to k
pub inside_zero : (x k : ℕ) → x ≤ k → inside x k ≡ not (eqb x 0)
inside_zero zero k l = refl
inside_zero (suc x) k l = rw (le-leb 1 (suc x) (omega arith), le-leb (suc x) k l, ne_eqb (suc x) 0 (λ e. omega arith))

-- one more makes no difference except to itself
le_more : (n k : ℕ) → eqb k (suc n) ≡ false → (t : Bool) → leb k n ≡ t → leb k (suc n) ≡ t
le_more n k e true l = le-leb k (suc n) (omega (arith, leb-true k n l))
le_more n k e false l = lt-leb k (suc n) (omega (arith, leb-false k n l, eqb-false k (suc n) e))

one_more : (n k : ℕ) (z : ℤ) (t : Bool) → eqb k (suc n) ≡ t → only (inside k n) z +ℤ only t z ≡ only (inside k (suc n)) z
one_more n k z true e =
    let q : k ≡ suc n = eqb-true k (suc n) e in
    rw (le-leb 1 k (omega arith), lt-leb k n (omega arith), le-leb k (suc n) (omega arith)) (+ℤ_idl z)
one_more n k z false e = rw (le_more n k e (leb k n) refl) (+ℤ_idr (only (inside k n) z))

-- one term alone: k's, if k is one of 1 to n
pub sum_to_one : (n k : ℕ) (z : ℤ) → sum_to n (λ i. only (eqb k i) z) ≡ only (inside k n) z
sum_to_one zero k z = rw (inside_none k) (sum_to_none (λ i. only (eqb k i) z))
sum_to_one (suc n) k z = sum_to_more n (λ i. only (eqb k i) z) ∙ rw (sum_to_one n k z) (one_more n k z (eqb k (suc n)) refl)
