-- The lists f 0, f 1, .. f (n - 1): how long they are, what stands in them, and how the code stores one entry by entry. Assumes nothing.
use mathlib.Core.Bool.{Bool, true, false}
use mathlib.Core.List.{List, [], ◌∷◌}
use mathlib.Core.Path.{◌≡◌, refl, ◌∙◌}
use Prim.Native.Nat.{ℕ, zero, suc, ◌+◌, ◌≤◌, ◌<◌}
use native.Mathlib.Numerals.{add-one}
use native.Mathlib.Omega.{arith}
use lib.Dec.{ltb}
use lib.ListN.{length, get_or, take, drop, set, length-append, get_or-append}
use lib.Seq.{sets, sets-eq, take_at, get_or_at}
use borrow.Author.Tests.{ltb-true, ltb-false}
use Rattle.measures.specs.Points.{first_of}
use Rattle.records.proofs.Stores.{sets_append}

module _ {A : Type 0} (f : ℕ → A) where
  pub first_many : (n : ℕ) → length (first_of f n) ≡ n
  unfolding first_of
  first_many zero = refl
  first_many (suc n) = rw (length-append, first_many n) (omega arith)

  pub first_at : (d : A) (n i : ℕ) → i < n → get_or (first_of f n) i d ≡ f i
  unfolding first_of
  first_at d zero i h = absurd (omega arith)
  first_at d (suc n) i h = by (first_at d n i) (ltb i n) refl
    where
      by : (i < n → get_or (first_of f n) i d ≡ f i) → (t : Bool) → ltb i n ≡ t → get_or (first_of f (suc n)) i d ≡ f i
      by before true e =
          let l : i < n = ltb-true i n e in
          get_or-append (first_of f n) (f n ∷ []) d i (rw (first_many n) l) ∙ before l
      by before false e =
          let z : i ≡ n = omega (arith, ltb-false i n e) in
          rw z (get_or_at (first_of f n) (f n) [] d n (first_many n))

  pub first_ext : (g : ℕ → A) (n : ℕ) → ((i : ℕ) → i < n → f i ≡ g i) → first_of f n ≡ first_of g n
  unfolding first_of
  first_ext g zero h = refl
  first_ext g (suc n) h = rw (first_ext g n (λ i l. h i (omega arith)), h n (omega arith))

  -- one entry more
  pub first_stored : (ms : List A) (at n : ℕ) → set (sets ms at (first_of f n)) (at + n) (f n) ≡ sets ms at (first_of f (n + 1))
  unfolding first_of
  first_stored ms at n =
      let e = sets_append ms at (first_of f n) (f n ∷ []) in
      rw (add-one, e, first_many n)

  -- they stand in front
  pub first_front : (ms : List A) (n : ℕ) → n ≤ length ms → take n (sets ms 0 (first_of f n)) ≡ first_of f n
  first_front ms n h =
      let l = first_many n in
      let z : 0 + length (first_of f n) ≤ length ms = omega arith in
      rw (sets-eq (first_of f n) ms 0 z) (take_at (first_of f n) (drop (0 + length (first_of f n)) ms) n l)
