-- What holds of the number of every rule holds of the number that is answered. Assumes nothing.
use mathlib.Core.Bool.{Bool, true, false, cond, ◌&&◌, not, false≢true}
use mathlib.Core.List.{List, [], ◌∷◌, ◌++◌}
use mathlib.Core.Logic.{⊎_elim, inl, inr}
use mathlib.Core.Path.{◌≡◌, refl, sym, ap, ◌∙◌}
use Prim.Native.Nat.{ℕ, zero, suc, ◌≤◌}
use native.Mathlib.Omega.{arith}
use lib.Dec.{leb, eqb}
use borrow.Author.Tests.{le-leb, leb-true, eq-eqb, ne_eqb}
use Rattle.std.specs.Prelude.{Err, Ok}
use Rattle.verdict.specs.declared.Refusal.{Refusal}
use Rattle.verdict.specs.Rules.{Verdict, Fine, Broken, Rule, broken_at, first_broken, Check, block, rows, told_of}
use Rattle.verdict.specs.Order.{In}
use Rattle.verdict.proofs.Orders.{in_append, and_both}

-- n is one of a to b
abbrev pub between : ℕ → ℕ → ℕ → Bool
between a b n = leb a n && leb n b

-- n is not m
abbrev pub unlike : ℕ → ℕ → Bool
unlike m n = not (eqb n m)

-- n is one of 1 to b that are given: 7 is not (RULES 6.2)
abbrev pub given : ℕ → ℕ → Bool
given b n = between 1 b n && unlike 7 n

-- the refusals of stages 1 and 2; refusal 9 with them; those of the later stages
abbrev pub up_to8 : ℕ → Bool
up_to8 = given 8

abbrev pub up_to9 : ℕ → Bool
up_to9 = given 9

abbrev pub ten_to18 : ℕ → Bool
ten_to18 = between 10 18

pub between_both : (a b n : ℕ) → between a b n ≡ true → (a ≤ n) × (n ≤ b)
between_both a b n h =
    let c = and_both (leb a n) (leb n b) h in
    (leb-true a n c.0, leb-true n b c.1)

pub given_wider : (b c n : ℕ) → b ≤ c → given b n ≡ true → given c n ≡ true
given_wider b c n l h =
    let e = and_both (between 1 b n) (unlike 7 n) h in
    let d = between_both 1 b n e.0 in
    rw (le-leb 1 n d.0, le-leb n c (omega (arith, d.1))) e.1

-- m is none of a to b
pub between_unlike : (a b m n : ℕ) → (a ≤ m → m ≤ b → ⊥) → between a b n ≡ true → unlike m n ≡ true
between_unlike a b m n o h =
    let d = between_both a b n h in
    rw (ne_eqb n m (λ e. o (rw e at d.0) (rw e at d.1)))

-- m is none of those that are given
pub given_unlike : (b m n : ℕ) → (1 ≤ m → m ≤ b → (m ≡ 7 → ⊥) → ⊥) → given b n ≡ true → unlike m n ≡ true
given_unlike b m n o h =
    let e = and_both (between 1 b n) (unlike 7 n) h in
    let d = between_both 1 b n e.0 in
    rw (ne_eqb n m (λ q. o (rw q at d.0) (rw q at d.1) (λ z. false≢true (rw (q, eq-eqb m 7 z) at e.1))))

module _ (p : ℕ → Bool) where
  -- of a record's checks; it computes
  abbrev pub numbered : List Check → Bool
  numbered [] = true
  numbered (c ∷ cs) = p c.number && numbered cs

  abbrev pub Numbered : List Rule → Type 0
  Numbered rs = (a : Rule) → In a rs → p a.number ≡ true

  pub block_numbered : (s r : ℕ) (cs : List Check) → numbered cs ≡ true → Numbered (block s r cs)
  unfolding block
  block_numbered s r [] h a i = absurd i
  block_numbered s r (c ∷ cs) h a i =
      let b = and_both (p c.number) (numbered cs) h in
      ⊎_elim (λ e. ap (λ (x : Rule). p x.number) e ∙ b.0) (λ j. block_numbered s r cs b.1 a j) i

  pub append_numbered : (xs ys : List Rule) → Numbered xs → Numbered ys → Numbered (xs ++ ys)
  append_numbered xs ys f g a i = ⊎_elim (λ j. f a j) (λ j. g a j) (in_append a xs ys i)

  pub rows_numbered : (n : ℕ) (g : ℕ → List Rule) → ((k : ℕ) → Numbered (g k)) → Numbered (rows n g)
  unfolding rows
  rows_numbered zero g h a i = absurd i
  rows_numbered (suc n) g h a i = append_numbered (rows n g) (g n) (rows_numbered n g h) (h n) a i

  -- the number that is answered
  pub broken_number : (rs : List Rule) → Numbered rs → {r : Refusal} → first_broken rs ≡ Err r → p r.number ≡ true
  unfolding first_broken
  broken_number [] h e = let z : ◌≡◌ {A = ℕ} 0 1 = cc in absurd (omega arith)
  broken_number (a ∷ rs) h {r} e = by a.holds e (λ q. broken_number rs (λ b i. h b (inr i)) q)
    where
      by : (t : Bool) → cond t (first_broken rs) (broken_at a) ≡ Err r → (first_broken rs ≡ Err r → p r.number ≡ true) → p r.number ≡ true
      by true q rest = rest q
      by false q rest = let z : a.number ≡ r.number = ap (λ v. (told_of v).number) q in rw (← z) (h a (inl refl))

-- a number that no rule bears is told of no refusal; 0 is told where all are kept
pub not_told : (m : ℕ) (rs : List Rule) → Numbered (unlike m) rs → (v : Verdict) → v ≡ first_broken rs → (told_of v).number ≡ m → v ≡ Fine
not_told m rs h (Ok _) e z = refl
not_told m rs h (Err r) e z =
    let b : unlike m r.number ≡ true = broken_number (unlike m) rs h (sym e) in
    absurd (false≢true (rw (eq-eqb r.number m z) at b))
