-- The first broken rule of a sorted list is the least broken one, and no second answer fits; and how lists of rules are sorted part by
-- part. Assumes nothing.
use mathlib.Core.Bool.{Bool, true, false, cond, ◌&&◌, ◌||◌}
use mathlib.Core.List.{List, [], ◌∷◌, ◌++◌}
use mathlib.Core.Logic.{◌⊎◌, ⊎_elim, inl, inr}
use mathlib.Core.Path.{◌≡◌, refl, sym, ◌∙◌, ap, subst}
use Prim.Native.Nat.{ℕ, zero, suc, ◌+◌, ◌<◌, ◌≤◌}
use native.Mathlib.Omega.{arith}
use borrow.Author.Tests.{ltb-true, eqb-true, lt-ltb, le-ltb, eq-eqb}
use lib.Dec.{ltb, eqb}
use Rattle.std.specs.Prelude.{Err, Ok}
use Rattle.verdict.specs.Rules.{Verdict, Fine, Broken, Rule, broken_at, first_broken, Check, rule_of, block, rows}
use Rattle.verdict.specs.Order.{place_of, before, In, Least, Answer, Ahead, Sorted, spot_of, ahead_of, rising}

-- ---- the answer is right

ahead : (a : Rule) (rs : List Rule) → Ahead a rs → (b : Rule) → In b rs → before (place_of a) (place_of b) ≡ true
ahead a [] h b i = elim i [ ]
ahead a (x ∷ rs) h b i = ⊎_elim (λ e. rw e h.0) (λ j. ahead a rs h.1 b j) i

clash : (b : Bool) → b ≡ true → b ≡ false → ⊥
clash b p q = let z : true ≡ false = sym p ∙ q in let y : ◌≡◌ {A = ℕ} 0 1 = cc in omega arith

-- one rule more in front that holds
still : (a : Rule) (rs : List Rule) → a.holds ≡ true → (v : Verdict) → Answer rs v → Answer (a ∷ rs) v
still a rs h (Ok _) all = λ b i. ⊎_elim (λ e. rw e h) (λ j. all b j) i
still a rs h (Err r) l = record {
  rule = l.rule;
  listed = inr l.listed;
  broken = l.broken;
  told = l.told;
  least = λ b i q. ⊎_elim (λ e. absurd (clash b.holds (ap (λ (x : Rule). x.holds) e ∙ h) q)) (λ j. l.least b j q) i;
}

-- one in front that is broken
here : (a : Rule) (rs : List Rule) → Ahead a rs → a.holds ≡ false → Answer (a ∷ rs) (broken_at a)
here a rs h f = record {
  rule = a;
  listed = inl refl;
  broken = f;
  told = refl;
  least = λ b i q. ⊎_elim (λ e. inl e) (λ j. inr (ahead a rs h b j)) i;
}

pub answers : (rs : List Rule) → Sorted rs → Answer rs (first_broken rs)
unfolding first_broken
answers [] s = λ b i. absurd i
answers (a ∷ rs) s = go a.holds refl (answers rs s.1)
  where
    go : (t : Bool) → a.holds ≡ t → Answer rs (first_broken rs) → Answer (a ∷ rs) (cond a.holds (first_broken rs) (broken_at a))
    go true e h = subst (λ (t : Bool). Answer (a ∷ rs) (cond t (first_broken rs) (broken_at a))) (sym e) (still a rs e (first_broken rs) h)
    go false e h = subst (λ (t : Bool). Answer (a ∷ rs) (cond t (first_broken rs) (broken_at a))) (sym e) (here a rs s.0 e)

-- ---- no second answer fits

or_cases : (a b : Bool) → (a || b) ≡ true → (a ≡ true) ⊎ (b ≡ true)
or_cases true b h = inl refl
or_cases false b h = inr h

pub and_both : (a b : Bool) → (a && b) ≡ true → (a ≡ true) × (b ≡ true)
and_both true b h = (refl, h)
and_both false b h = absurd (clash false h refl)

asym : (xs ys : List ℕ) → before xs ys ≡ true → before ys xs ≡ true → ⊥
asym [] [] p q = clash false p refl
asym [] (y ∷ ys) p q = clash false p refl
asym (x ∷ xs) [] p q = clash false p refl
asym (x ∷ xs) (y ∷ ys) p q =
    ⊎_elim
    (λ l. ⊎_elim (λ m. omega (arith, ltb-true x y l, ltb-true y x m))
    (λ m. omega (arith, ltb-true x y l, eqb-true y x (and_both (eqb y x) (before ys xs) m).0)) (or_cases _ _ q))
    (λ l. ⊎_elim (λ m. omega (arith, ltb-true y x m, eqb-true x y (and_both (eqb x y) (before xs ys) l).0))
    (λ m. asym xs ys (and_both (eqb x y) (before xs ys) l).1 (and_both (eqb y x) (before ys xs) m).1) (or_cases _ _ q))
    (or_cases _ _ p)

same : (rs : List Rule) {v w : Verdict} (l : Least rs v) (m : Least rs w) → m.rule ≡ l.rule → v ≡ w
same rs l m e = l.told ∙ ap broken_at (sym e) ∙ sym m.told

pub only : (rs : List Rule) (v w : Verdict) → Answer rs v → Answer rs w → v ≡ w
only rs (Ok _) (Ok _) p q = refl
only rs (Ok _) (Err r) p q = absurd (clash _ (p q.rule q.listed) q.broken)
only rs (Err r) (Ok _) p q = absurd (clash _ (q p.rule p.listed) p.broken)
only rs (Err r) (Err r') p q =
    ⊎_elim
    (λ e. same rs p q e)
    (λ l. ⊎_elim (λ e. same rs p q (sym e)) (λ m. absurd (asym (place_of p.rule) (place_of q.rule) l m)) (q.least p.rule p.listed p.broken))
    (p.least q.rule q.listed q.broken)

-- ---- sorted part by part

ahead_of_lem : (a : Rule) (rs : List Rule) → ((b : Rule) → In b rs → before (place_of a) (place_of b) ≡ true) → Ahead a rs
ahead_of_lem a [] h = tt
ahead_of_lem a (b ∷ rs) h = (h b (inl refl), ahead_of_lem a rs (λ x i. h x (inr i)))

pub in_append : (x : Rule) (xs ys : List Rule) → In x (xs ++ ys) → In x xs ⊎ In x ys
in_append x [] ys i = inr i
in_append x (a ∷ xs) ys i = ⊎_elim (λ e. inl (inl e)) (λ j. ⊎_elim (λ p. inl (inr p)) (λ q. inr q) (in_append x xs ys j)) i

pub sorted_append : (xs ys : List Rule) → Sorted xs → Sorted ys → ((a b : Rule) → In a xs → In b ys → before (place_of a) (place_of b) ≡ true) → Sorted (xs ++ ys)
sorted_append [] ys p q h = q
sorted_append (a ∷ xs) ys p q h = (
  ahead_of_lem a (xs ++ ys) (λ b i. ⊎_elim (λ j. ahead a xs p.0 b j) (λ j. h a b (inl refl) j) (in_append b xs ys i)),
  sorted_append xs ys p.1 q (λ x b i j. h x b (inr i) j),
)

earlier_turn : (a b : Rule) → a.turn < b.turn → before (place_of a) (place_of b) ≡ true
earlier_turn a b l = rw (lt-ltb a.turn b.turn l)

pub earlier_row : (a b : Rule) → a.turn ≡ b.turn → a.row < b.row → before (place_of a) (place_of b) ≡ true
earlier_row a b e l = rw (le-ltb a.turn b.turn (omega arith), eq-eqb a.turn b.turn e, lt-ltb a.row b.row l)

self : (x : ℕ) (t : Bool) → (ltb x x || (eqb x x && t)) ≡ t
self x t = rw (le-ltb x x (omega arith), eq-eqb x x refl)

pub block_in : (s r : ℕ) (cs : List Check) (x : Rule) → In x (block s r cs) → (x.turn ≡ s) × (x.row ≡ r)
unfolding block
block_in s r [] x i = absurd i
block_in s r (c ∷ cs) x i = ⊎_elim (λ e. (ap (λ (y : Rule). y.turn) e, ap (λ (y : Rule). y.row) e)) (λ j. block_in s r cs x j) i

block_ahead : (s r : ℕ) (a : Check) (cs : List Check) → ahead_of a cs ≡ true → Ahead (rule_of s r a) (block s r cs)
unfolding block
block_ahead s r a [] h = tt
block_ahead s r a (b ∷ cs) h = (
  self s _ ∙ self r _ ∙ (and_both (before (spot_of a) (spot_of b)) (ahead_of a cs) h).0,
  block_ahead s r a cs (and_both (before (spot_of a) (spot_of b)) (ahead_of a cs) h).1,
)

pub block_sorted : (s r : ℕ) (cs : List Check) → rising cs ≡ true → Sorted (block s r cs)
unfolding block
block_sorted s r [] h = tt
block_sorted s r (a ∷ cs) h = (block_ahead s r a cs (and_both (ahead_of a cs) (rising cs) h).0, block_sorted s r cs (and_both (ahead_of a cs) (rising cs) h).1)

-- the checks g k of each record, counted from 0, in a row
module _ (s : ℕ) (g : ℕ → List Check) where
  pub rows_in : (n : ℕ) (x : Rule) → In x (rows n (λ k. block s (k + 1) (g k))) → (x.turn ≡ s) × (x.row ≤ n)
  unfolding rows
  rows_in zero x i = absurd i
  rows_in (suc n) x i =
      ⊎_elim
      (λ j. let h = rows_in n x j in (h.0, omega (arith, h.1)))
      (λ j. let h = block_in s (n + 1) (g n) x j in (h.0, omega (arith, h.1)))
      (in_append x (rows n (λ k. block s (k + 1) (g k))) (block s (n + 1) (g n)) i)

  pub rows_sorted : (n : ℕ) → ((k : ℕ) → rising (g k) ≡ true) → Sorted (rows n (λ k. block s (k + 1) (g k)))
  unfolding rows
  rows_sorted zero h = tt
  rows_sorted (suc n) h =
      sorted_append (rows n (λ k. block s (k + 1) (g k))) (block s (n + 1) (g n)) (rows_sorted n h) (block_sorted s (n + 1) (g n) (h n))
      (λ a b i j. let p = rows_in n a i in let q = block_in s (n + 1) (g n) b j in earlier_row a b (p.0 ∙ sym q.0) (omega (arith, p.1, q.1)))

-- ---- turns in a row

-- every rule of the list is of turn s, or of a turn before it
abbrev pub UpTo : ℕ → List Rule → Type 0
UpTo s rs = (a : Rule) → In a rs → a.turn ≤ s

abbrev pub Of : ℕ → List Rule → Type 0
Of s rs = (a : Rule) → In a rs → a.turn ≡ s

-- one turn more
pub turn_sorted : (s t : ℕ) (xs ys : List Rule) → s < t → UpTo s xs → Of t ys → Sorted xs → Sorted ys → Sorted (xs ++ ys)
turn_sorted s t xs ys l f g p q = sorted_append xs ys p q (λ a b i j. earlier_turn a b (omega (arith, f a i, g b j)))

pub turn_up : (s t : ℕ) (xs ys : List Rule) → s ≤ t → UpTo s xs → Of t ys → UpTo t (xs ++ ys)
turn_up s t xs ys l f g a i = ⊎_elim (λ j. omega (arith, f a j)) (λ j. omega (arith, g a j)) (in_append a xs ys i)
