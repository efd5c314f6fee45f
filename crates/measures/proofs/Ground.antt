-- NO GROUND IS LOST: where each line stands once, forwards, in its right area and once, backwards, in its left one, the areas' measures
-- add up to the outside sum. By summing over all lines' entries, either way round. Assumes nothing.
use mathlib.Core.Bool.{Bool, true, false, cond, not, ◌||◌, false≢true}
use mathlib.Core.List.{List, [], ◌∷◌, ◌++◌, map}
use mathlib.Core.Path.{◌≡◌, refl, sym, ◌∙◌, ap, ap₂, subst}
use Prim.Native.Nat.{ℕ, ◌≤◌, ◌<◌}
use native.Mathlib.Omega.{arith}
use lib.Dec.{eqb}
use lib.IntN.{ℤ, pos, neg_ℤ, ◌+ℤ◌, +ℤ_idl, +ℤ_idr, +ℤ_invr}
use borrow.Author.Tests.{eqb-true, eq-eqb, ne_eqb, le-leb}
use Rattle.measures.specs.Ground.{same_entry, listed_in, Each, entry_area, Named, Known, NoRepeat, Listed}
use Rattle.measures.specs.Measures.{Entry, plus, minus, entry_measure, loop_measure, outside}
use Rattle.measures.specs.Sum.{sum, up_to, sum_to}
use Rattle.measures.proofs.SumLaws.{sum_append, sum_map, sum_ext, sum_zero, sum_add, sum_exchange, sum_to_ext, inside, inside_zero, only, sum_to_one}

-- ---- an entry stands in its own area, and in no other

same_true : (e x : Entry) → same_entry e x ≡ true → e ≡ x
same_true (plus k) (plus i) h = ap plus (eqb-true k i h)
same_true (plus k) (minus i) h = absurd (false≢true h)
same_true (minus k) (plus i) h = absurd (false≢true h)
same_true (minus k) (minus i) h = ap minus (eqb-true k i h)

-- what holds of every entry holds of one that stands there
pub stands_each : (P : Entry → Type 0) (es : List Entry) → Each P es → (e : Entry) → listed_in e es ≡ true → P e
unfolding listed_in
stands_each P [] h e s = absurd (false≢true s)
stands_each P (x ∷ es) h e s = by (stands_each P es h.1 e) (same_entry x e) refl s
  where
    by : (listed_in e es ≡ true → P e) → (t : Bool) → same_entry x e ≡ t → t || listed_in e es ≡ true → P e
    by rest true q s = subst P (same_true x e q) h.0
    by rest false q s = rest s

-- by 17 and 18, an entry stands in area a if that is its own, and only then
pub listed_stands : {n : ℕ} {left right : ℕ → ℕ} {a : ℕ} {es : List Entry}
    → Listed n left right a es → (e : Entry) → Named n e → listed_in e es ≡ eqb (entry_area left right e) a
listed_stands {left = left} {right = right} {a = a} {es = es} h e n = by (listed_in e es) refl
  where
    by : (t : Bool) → listed_in e es ≡ t → t ≡ eqb (entry_area left right e) a
    by true s = sym (eq-eqb _ _ (stands_each _ es h.own e s))
    by false s = sym (ne_eqb _ _ (λ q. false≢true (sym s ∙ h.present e n q)))

-- ---- sums over the entries of all lines

-- the lines 1 to n, forwards and backwards
sides_to : ℕ → List Entry
sides_to n = map plus (up_to n) ++ map minus (up_to n)

sides_sum : (n : ℕ) (f : Entry → ℤ) → sum f (sides_to n) ≡ sum_to n (λ i. f (plus i)) +ℤ sum_to n (λ i. f (minus i))
unfolding sides_to
sides_sum n f = sum_append f (map plus (up_to n)) (map minus (up_to n)) ∙ ap₂ ◌+ℤ◌ (sum_map f plus (up_to n)) (sum_map f minus (up_to n))

sides_ext : (n : ℕ) (f g : Entry → ℤ) → ((e : Entry) → Named n e → f e ≡ g e) → sum f (sides_to n) ≡ sum g (sides_to n)
sides_ext n f g h =
    sides_sum n f
    ∙ ap₂ ◌+ℤ◌ (sum_to_ext n (λ i. f (plus i)) (λ i. g (plus i)) (λ i p q. h (plus i) (p, q)))
    (sum_to_ext n (λ i. f (minus i)) (λ i. g (minus i)) (λ i p q. h (minus i) (p, q)))
    ∙ sym (sides_sum n g)

-- one entry alone
line_alone : (n k : ℕ) (z : ℤ) → 0 < k → k ≤ n → sum_to n (λ i. only (eqb k i) z) ≡ z
line_alone n k z p q = sum_to_one n k z ∙ rw (le-leb 1 k p, le-leb k n q)

sides_one : (n : ℕ) (e : Entry) (z : ℤ) → Named n e → sum (λ x. only (same_entry e x) z) (sides_to n) ≡ z
sides_one n (plus k) z h = sides_sum n (λ x. only (same_entry (plus k) x) z) ∙ ap₂ ◌+ℤ◌ (line_alone n k z h.0 h.1) (sum_zero (up_to n)) ∙ +ℤ_idr z
sides_one n (minus k) z h = sides_sum n (λ x. only (same_entry (minus k) x) z) ∙ ap₂ ◌+ℤ◌ (sum_zero (up_to n)) (line_alone n k z h.0 h.1) ∙ +ℤ_idl z

-- ---- a loop's measure, line by line

-- the measures of the entries that p picks
abbrev picked : ℕ → (ℕ → ℤ) → (Entry → Bool) → ℤ
picked n m p = sum (λ e. only (p e) (entry_measure m e)) (sides_to n)

module _ (n : ℕ) (m : ℕ → ℤ) where
  -- e before entries that it is not one of
  entry_first : (e x : Entry) (es : List Entry) → listed_in e es ≡ false → (t : Bool) → same_entry e x ≡ t
      → only t (entry_measure m e) +ℤ only (listed_in x es) (entry_measure m x) ≡ only (t || listed_in x es) (entry_measure m x)
  entry_first e x es s true q =
      let p : e ≡ x = same_true e x q in
      rw (← p, s) (+ℤ_idr (entry_measure m e))
  entry_first e x es s false q = +ℤ_idl (only (listed_in x es) (entry_measure m x))

  -- by 13, a loop's measure is that of the entries that stand in it
  loop_sides : (es : List Entry) → Known n es → NoRepeat es → loop_measure m es ≡ picked n m (λ e. listed_in e es)
  unfolding loop_measure sum listed_in
  loop_sides [] h o = sym (sum_zero (sides_to n))
  loop_sides (e ∷ es) h o =
      ap₂ ◌+ℤ◌ (sym (sides_one n e (entry_measure m e) h.0)) (loop_sides es h.1 o.1)
      ∙ sym (sum_add (λ x. only (same_entry e x) (entry_measure m e)) (λ x. only (listed_in x es) (entry_measure m x)) (sides_to n))
      ∙ sum_ext _ _ (λ x. entry_first e x es o.0 (same_entry e x) refl) (sides_to n)

  picked_lines : (p : Entry → Bool) → picked n m p ≡ sum_to n (λ i. only (p (plus i)) (m i) +ℤ only (p (minus i)) (neg_ℤ (m i)))
  picked_lines p =
      sides_sum n (λ e. only (p e) (entry_measure m e)) ∙ sym (sum_add (λ i. only (p (plus i)) (m i)) (λ i. only (p (minus i)) (neg_ℤ (m i))) (up_to n))

  -- each line counts where it stands: forwards, backwards, or both
  pub loop_lines : (es : List Entry) → Known n es → NoRepeat es
      → loop_measure m es ≡ sum_to n (λ i. only (listed_in (plus i) es) (m i) +ℤ only (listed_in (minus i) es) (neg_ℤ (m i)))
  loop_lines es h o = loop_sides es h o ∙ picked_lines (λ e. listed_in e es)

-- ---- all areas

-- a line of the layer by whether its left (a) and its right area (b) are the outside
one_line : (a b : Bool) (z : ℤ) → only (not b) z +ℤ only (not a) (neg_ℤ z) ≡ cond a (cond b (pos 0) z) (cond b (neg_ℤ z) (pos 0))
one_line true true z = refl
one_line true false z = +ℤ_idr z
one_line false true z = +ℤ_idl (neg_ℤ z)
one_line false false z = +ℤ_invr z

module _ (n : ℕ) (m : ℕ → ℤ) (left right : ℕ → ℕ) (k : ℕ) (entries : ℕ → List Entry)
    (listed : (a : ℕ) → 0 < a → a ≤ k → Listed n left right a (entries a)) where
  -- the first j areas: each line counts forwards if its right area is one of them, and backwards if its left one is
  pub ground_prefix : (j : ℕ) → j ≤ k
      → sum_to j (λ a. loop_measure m (entries a)) ≡ sum_to n (λ i. only (inside (right i) j) (m i) +ℤ only (inside (left i) j) (neg_ℤ (m i)))
  ground_prefix j l =
      sum_to_ext j _ (λ a. picked n m (λ e. eqb (entry_area left right e) a)) area
      ∙ sum_exchange (λ a e. only (eqb (entry_area left right e) a) (entry_measure m e)) (up_to j) (sides_to n)
      ∙ sum_ext _ _ (λ e. sum_to_one j (entry_area left right e) (entry_measure m e)) (sides_to n)
      ∙ picked_lines n m (λ e. inside (entry_area left right e) j)
    where
      area : (a : ℕ) → 0 < a → a ≤ j → loop_measure m (entries a) ≡ picked n m (λ e. eqb (entry_area left right e) a)
      area a p q =
          let h = listed a p (omega arith) in
          loop_sides n m (entries a) h.known h.once
          ∙ sides_ext n _ _ (λ e d. ap (λ (t : Bool). only t (entry_measure m e)) (listed_stands h e d))

  -- all areas, where each left and right area is 0, the outside, or one of them
  pub ground_kept : ((i : ℕ) → 0 < i → i ≤ n → (left i ≤ k) × (right i ≤ k))
      → sum_to k (λ a. loop_measure m (entries a)) ≡ sum_to n (λ i. outside (left i) (right i) (m i))
  ground_kept h =
      ground_prefix k (omega arith)
      ∙ sum_to_ext n _ (λ i. outside (left i) (right i) (m i))
      (λ i p q. rw (inside_zero (right i) k (h i p q).1, inside_zero (left i) k (h i p q).0) (one_line (eqb (left i) 0) (eqb (right i) 0) (m i)))
