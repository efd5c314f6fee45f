-- What stage 2 says of each number of a record that keeps it: the number is well formed, and what is asked of it holds. Said by the
-- number's place among the numbers of its layout and proved along the layout, so that no proof counts checks. Assumes nothing.
use mathlib.Core.Bool.{Bool, true}
use mathlib.Core.List.{List, [], ◌∷◌, ◌++◌}
use mathlib.Core.Path.{◌≡◌}
use Prim.Native.Nat.{ℕ, zero, suc, ◌+◌, ◌*◌, ◌≤◌, ◌<◌}
use native.Mathlib.Nat.{add-zero}
use native.Mathlib.Omega.{arith}
use lib.IntN.{ℤ, pos}
use lib.ListN.{length, length-set}
use lib.Seq.{get_or-set_same}
use Rattle.fields.specs.Answer.{value_of}
use Rattle.fields.specs.Number.{number_at}
use Rattle.records.specs.Layout.{row, layout_of, numbers_of, total}
use Rattle.records.specs.Reading.{zeros}
use Rattle.records.specs.declared.Field.{Field}
use Rattle.records.specs.declared.Field.TheVariants.{Letters, Number, Code, Name, Blank}
use Rattle.records.proofs.Layouts.{fitting}
use Rattle.verdict.proofs.Holding.{Holding, both_hold}
use Rattle.rules.specs.declared.Due.{Due}
use Rattle.asks.specs.Asks.{Ask, permitted, at}
use Rattle.rules.specs.Checks.{kind_of, asked_of, free, form_checks, value_checks, with_number, with_code, along, checks_of}

-- ---- the numbers of a layout

-- the field of number i, counted from 0; the end where there are no more
abbrev pub number_field : List Field → ℕ → Field
number_field [] i = Blank 0 0
number_field (Letters x y z ∷ L) i = number_field L i
number_field (Number c w ∷ L) zero = Number c w
number_field (Number c w ∷ L) (suc i) = number_field L i
number_field (Code c w ∷ L) zero = Code c w
number_field (Code c w ∷ L) (suc i) = number_field L i
number_field (Name c w ∷ L) i = number_field L i
number_field (Blank c w ∷ L) i = number_field L i

-- number i of a layout that begins with a row of n
pub row_number : (c w n : ℕ) (L : List Field) (i : ℕ) → i < n → number_field (row c w n ++ L) i ≡ Number (c + w * i) w
row_number c w zero L i h = absurd (omega arith)
row_number c w (suc n) L zero h =
    let e : c + w * 0 ≡ c = omega arith in
    rw e
row_number c w (suc n) L (suc i) h =
    let e : c + w * suc i ≡ c + w + w * i = omega arith in
    rw e (row_number (c + w) w n L i (omega arith))

-- the numbers of a record as they stand where number i of L is read, behind n numbers, which are ns: those up to it
read_to : List Field → ℕ → List ℤ → List ℕ → ℕ → List ℤ
read_to [] n ns t i = ns
read_to (Letters x y z ∷ L) n ns t i = read_to L n ns t i
read_to (Number c w ∷ L) n ns t zero = with_number ns n t c w
read_to (Number c w ∷ L) n ns t (suc i) = read_to L (suc n) (with_number ns n t c w) t i
read_to (Code c w ∷ L) n ns t zero = with_code ns n t c w
read_to (Code c w ∷ L) n ns t (suc i) = read_to L (suc n) (with_code ns n t c w) t i
read_to (Name c w ∷ L) n ns t i = read_to L n ns t i
read_to (Blank c w ∷ L) n ns t i = read_to L n ns t i

-- no number stands at the end, and a code is none
no_number : {A : Type 0} {c w : ℕ} → Blank 0 0 ≡ Number c w → A
no_number e =
    let z : ◌≡◌ {A = ℕ} 0 1 = cc in
    absurd (omega arith)

code_no_number : {A : Type 0} {c w d v : ℕ} → Code d v ≡ Number c w → A
code_no_number e =
    let z : ◌≡◌ {A = ℕ} 0 1 = cc in
    absurd (omega arith)

module _ (t : List ℕ) where
  -- number i has its place among them
  number_read : (L : List Field) (n : ℕ) (ns : List ℤ) (i : ℕ) {c w : ℕ} → number_field L i ≡ Number c w → n + total numbers_of L ≤ length ns
      → at (read_to L n ns t i) (n + i) ≡ value_of (number_at t c w)
  unfolding read_to total
  number_read [] n ns i e l = no_number e
  number_read (Letters x y z ∷ L) n ns i e l = number_read L n ns i e (omega arith)
  number_read (Number c w ∷ L) n ns zero {c = x} {w = y} e l =
      let p : c ≡ x = cc in
      let q : w ≡ y = cc in
      rw (add-zero, get_or-set_same ns n (value_of (number_at t c w)) (pos 0) (omega arith), p, q)
  number_read (Number c w ∷ L) n ns (suc i) e l =
      let p : n + suc i ≡ suc n + i = omega arith in
      rw p (number_read L (suc n) (with_number ns n t c w) i e (rw length-set (omega arith)))
  number_read (Code c w ∷ L) n ns zero e l = code_no_number e
  number_read (Code c w ∷ L) n ns (suc i) e l =
      let p : n + suc i ≡ suc n + i = omega arith in
      rw p (number_read L (suc n) (with_code ns n t c w) i e (rw length-set (omega arith)))
  number_read (Name c w ∷ L) n ns i e l = number_read L n ns i e (omega arith)
  number_read (Blank c w ∷ L) n ns i e l = number_read L n ns i e (omega arith)

  -- of the checks along L those of number i hold
  number_holds : (a : ℕ → List ℤ → List Ask) (L : List Field) (n : ℕ) (ns : List ℤ) → Holding (along a L n ns t)
      → (i : ℕ) {c w : ℕ} → number_field L i ≡ Number c w
      → Holding (form_checks (Number c w) t) × Holding (value_checks c (a (n + i) (read_to L n ns t i)))
  unfolding along read_to
  number_holds a [] n ns h i e = no_number e
  number_holds a (Letters x y z ∷ L) n ns h i e = number_holds a L n ns (both_hold (form_checks (Letters x y z) t) _ h).1 i e
  number_holds a (Number c w ∷ L) n ns h zero {c = x} {w = y} e =
      let p : c ≡ x = cc in
      let q : w ≡ y = cc in
      let f = both_hold (form_checks (Number c w) t) _ h in
      rw (← p, ← q, add-zero) (f.0, (both_hold (value_checks c (a n (with_number ns n t c w))) _ f.1).0)
  number_holds a (Number c w ∷ L) n ns h (suc i) e =
      let p : n + suc i ≡ suc n + i = omega arith in
      let f = both_hold (form_checks (Number c w) t) _ h in
      let v = both_hold (value_checks c (a n (with_number ns n t c w))) _ f.1 in
      rw p (number_holds a L (suc n) (with_number ns n t c w) v.1 i e)
  number_holds a (Code c w ∷ L) n ns h zero e = code_no_number e
  number_holds a (Code c w ∷ L) n ns h (suc i) e =
      let p : n + suc i ≡ suc n + i = omega arith in
      let f = both_hold (form_checks (Code c w) t) _ h in
      let v = both_hold (value_checks c (a n (with_code ns n t c w))) _ f.1 in
      rw p (number_holds a L (suc n) (with_code ns n t c w) v.1 i e)
  number_holds a (Name c w ∷ L) n ns h i e = number_holds a L n ns (both_hold (form_checks (Name c w) t) _ h).1 i e
  number_holds a (Blank c w ∷ L) n ns h i e = number_holds a L n ns (both_hold (form_checks (Blank c w) t) _ h).1 i e

-- ---- the record t, due as d, keeps its checks; its number i stands from column c on

module _ (d : Due) (t : List ℕ) (h : Holding (checks_of d t)) (i : ℕ) {c w : ℕ} (e : number_field (layout_of (kind_of d)) i ≡ Number c w) where
  -- THE NUMBER IS WELL FORMED
  pub number_formed : free 5 (Number c w) t ≡ true
  unfolding checks_of form_checks
  number_formed = (number_holds t (asked_of d t) (layout_of (kind_of d)) 0 zeros h i e).0.0

  -- WHAT IS ASKED OF IT HOLDS: of its value, where nothing else is looked at
  pub number_permitted : (p : ℤ → Bool) → ((ns : List ℤ) → asked_of d t i ns ≡ permitted (p (at ns i)) ∷ []) → p (value_of (number_at t c w)) ≡ true
  unfolding checks_of value_checks
  number_permitted p g =
      let L = layout_of (kind_of d) in
      let s = read_to L 0 zeros t i in
      let z : 0 + i ≡ i = omega arith in
      let v : at s i ≡ value_of (number_at t c w) = rw z at (number_read t L 0 zeros i e (omega (arith, (fitting (kind_of d)).numbers))) in
      (rw (z, g s, v) at (number_holds t (asked_of d t) L 0 zeros h i e).1).0
