-- Stage 2 along a layout, one field at a time: what the loop of `judge_record` keeps. Assumes nothing.
use mathlib.Core.Bool.{Bool, true, false, cond, ◌&&◌, ◌||◌, not}
use mathlib.Core.List.{List, [], ◌∷◌, ◌++◌}
use mathlib.Core.Path.{◌≡◌, refl, sym, ap, ◌∙◌}
use Prim.Native.Nat.{ℕ, suc, ◌+◌, ◌≤◌, ◌<◌}
use native.Mathlib.Numerals.{add-one}
use native.Mathlib.Omega.{arith}
use lib.Dec.{eqb}
use lib.IntN.{ℤ}
use lib.ListN.{length, get_or, drop, set, length-set, drop_of_length-le}
use Rattle.fields.specs.Number.{number_at}
use Rattle.fields.specs.Text.{is_blanks, is_name, text_at}
use Rattle.std.specs.Prelude.{Option, Some, None, Ok, Err}
use Rattle.codes.specs.declared.Code as codes
use Rattle.records.specs.Layout.{layout_of, start_of, numbers_of, total}
use Rattle.records.specs.Reading.{letters_right, letters_in, code_in, fault_of, zeros}
use Rattle.records.specs.declared.Field.{Field}
use Rattle.records.specs.declared.Kind.{Kind}
use Rattle.records.specs.declared.Field.TheVariants.{Letters, Number, Code, Name, Blank}
use Rattle.records.proofs.Layouts.{Stands, stands_in, on_layout, total_split, fitting, start_small}
use Rattle.verdict.specs.Rules.{Fine, Broken, Check, check, first_broken, block}
use Rattle.verdict.proofs.Parts.{check_none, check_kept, check_broken}
use Rattle.rules.specs.declared.Due.{Due}
use Rattle.asks.specs.declared.Fault.{Fault}
use Rattle.asks.specs.declared.Fault.TheVariants.{NotPermitted, OutOfStep}
use Rattle.asks.specs.Asks.{Ask, permitted, in_step, fault_number, first_asked}
use Rattle.rules.specs.Checks.{asks_of, asked_of, kind_of, form_checks, value_checks, along, checks_of}

-- ---- one field's checks, in front of others

-- the first of the asks that is not kept is the first broken check
module _ (r c : ℕ) (cs : List Check) where
  pub values_kept : (l : List Ask) → first_asked l ≡ Ok tt → first_broken (block 2 r (value_checks c l ++ cs)) ≡ first_broken (block 2 r cs)
  unfolding first_asked value_checks
  values_kept [] e = refl
  values_kept (permitted true ∷ l) e = check_kept 2 r c 6 true (value_checks c l ++ cs) refl ∙ values_kept l e
  values_kept (permitted false ∷ l) e = let z : ◌≡◌ {A = ℕ} 0 1 = cc in absurd (omega arith)
  values_kept (in_step true ∷ l) e = check_kept 2 r c 8 true (value_checks c l ++ cs) refl ∙ values_kept l e
  values_kept (in_step false ∷ l) e = let z : ◌≡◌ {A = ℕ} 0 1 = cc in absurd (omega arith)

  pub values_broken : (l : List Ask) (f : Fault) → first_asked l ≡ Err f → first_broken (block 2 r (value_checks c l ++ cs)) ≡ Broken (fault_number f) r c
  unfolding first_asked value_checks
  values_broken [] f e = let z : ◌≡◌ {A = ℕ} 0 1 = cc in absurd (omega arith)
  values_broken (permitted true ∷ l) f e = check_kept 2 r c 6 true (value_checks c l ++ cs) refl ∙ values_broken l f e
  values_broken (permitted false ∷ l) f e = let z : NotPermitted ≡ f = cc in rw (← z) (check_broken 2 r c 6 false (value_checks c l ++ cs) refl)
  values_broken (in_step true ∷ l) f e = check_kept 2 r c 8 true (value_checks c l ++ cs) refl ∙ values_broken l f e
  values_broken (in_step false ∷ l) f e = let z : OutOfStep ≡ f = cc in rw (← z) (check_broken 2 r c 8 false (value_checks c l ++ cs) refl)

-- what is asked of a number of the record t, by the record's own letters
pub asked_by : (d : Due) (t : List ℕ) {own : ℕ} → own ≡ letters_in (kind_of d) t → (i : ℕ) (ns : List ℤ) → get_or (asks_of d own ns) i [] ≡ asked_of d t i ns
unfolding asked_of
asked_by d t e i ns = rw e

-- ---- what the loop keeps: what is left gives the answer of the whole

pub record Going (d : Due) (t : List ℕ) (r : ℕ) (ns : List ℤ) (n j : ℕ) : Type 0 where
  pub many : length ns ≡ 16
  pub room : n + total numbers_of (drop j (layout_of (kind_of d))) ≤ 16
  pub answer : first_broken (block 2 r (along (asked_of d t) (drop j (layout_of (kind_of d))) n ns t)) ≡ first_broken (block 2 r (checks_of d t))

pub start : (d : Due) (t : List ℕ) (r : ℕ) → Going d t r zeros 0 0
unfolding checks_of
start d t r = record { many = refl; room = omega (arith, (fitting (kind_of d)).numbers); answer = refl }

-- as code has it: field j of the list K is f, and K is the layout of the kind that is due
pub stood : (d : Due) {k : Kind} {K : List Field} (j : ℕ) (z f : Field) → k ≡ kind_of d → K ≡ layout_of k → j < length K → get_or K j z ≡ f
    → Stands (layout_of (kind_of d)) j f
stood d j z f p q l e = stands_in j z f (q ∙ ap layout_of p) l e

-- there is room for the field f at j
pub record Room (d : Due) (f : Field) (n j : ℕ) : Type 0 where
  pub inside : j < length (layout_of (kind_of d))
  pub step : j < 18
  pub numbers : n + numbers_of f ≤ 16
  pub column : start_of f ≤ 73

module _ {d : Due} {t : List ℕ} {r : ℕ} {ns : List ℤ} {n j : ℕ} (g : Going d t r ns n j) where
  -- the layout's end
  pub ends : length (layout_of (kind_of d)) ≤ j → Fine ≡ first_broken (block 2 r (checks_of d t))
  unfolding along
  ends e =
      let z : drop j (layout_of (kind_of d)) ≡ [] = drop_of_length-le (layout_of (kind_of d)) e in
      check_none 2 r ∙ (rw z at g.answer)

  module _ (f : Field) (e : Stands (layout_of (kind_of d)) j f) where
    pub room_for : Room d f n j
    room_for =
        let l = on_layout (layout_of (kind_of d)) j f e in
        record {
          inside = l;
          step = omega (arith, l, (fitting (kind_of d)).few);
          numbers = omega (arith, total_split (layout_of (kind_of d)) j f e numbers_of, g.room);
          column = start_small (layout_of (kind_of d)) 1 j f (fitting (kind_of d)).tiled e;
        }

    -- field f in front of what is left behind it
    step : first_broken (block 2 r (along (asked_of d t) (f ∷ drop (j + 1) (layout_of (kind_of d))) n ns t)) ≡ first_broken (block 2 r (checks_of d t))
    step = rw e at g.answer

    next_room : (n' : ℕ) → n' ≡ n + numbers_of f → n' + total numbers_of (drop (j + 1) (layout_of (kind_of d))) ≤ 16
    next_room n' p = omega (arith, total_split (layout_of (kind_of d)) j f e numbers_of, g.room)

  module _ (a b c : ℕ) (e : Stands (layout_of (kind_of d)) j (Letters a b c)) {m : Bool} (q : m ≡ letters_right a b c (get_or t 0 0) (get_or t 1 0)) where
    pub letters_broken : m ≡ false → Broken 3 r 1 ≡ first_broken (block 2 r (checks_of d t))
    unfolding along form_checks fault_of
    letters_broken z = sym (check_broken 2 r 1 3 _ _ (rw (← q, z))) ∙ step (Letters a b c) e

    pub letters_next : m ≡ true → Going d t r ns n (j + 1)
    unfolding along form_checks fault_of
    letters_next z = record {
      many = g.many;
      room = next_room (Letters a b c) e n (omega arith);
      answer = sym (check_kept 2 r 1 3 _ _ (rw (← q, z))) ∙ step (Letters a b c) e;
    }

  -- behind a well-formed number or code that starts at column c, what is asked of its value v comes next
  abbrev Next : ℕ → ℤ → Type 0
  Next c v =
      first_broken (block 2 r (value_checks c (asked_of d t n (set ns n v)) ++ along (asked_of d t) (drop (j + 1) (layout_of (kind_of d))) (suc n) (set ns n v) t))
      ≡ first_broken (block 2 r (checks_of d t))

  module _ (f : Field) (e : Stands (layout_of (kind_of d)) j f) (one : numbers_of f ≡ 1) (v : ℤ)
      (a : Next (start_of f) v) where
    value_broken : {x : Fault} → Err x ≡ first_asked (asked_of d t n (set ns n v)) → Broken (fault_number x) r (start_of f) ≡ first_broken (block 2 r (checks_of d t))
    value_broken p = sym (values_broken r (start_of f) _ (asked_of d t n (set ns n v)) _ (sym p)) ∙ a

    value_next : Ok tt ≡ first_asked (asked_of d t n (set ns n v)) → Going d t r (set ns n v) (n + 1) (j + 1)
    value_next p = record {
      many = rw length-set g.many;
      room = next_room f e (n + 1) (rw one);
      answer = rw (add-one n) (sym (values_kept r (start_of f) _ (asked_of d t n (set ns n v)) (sym p)) ∙ a);
    }

  module _ (c w : ℕ) (e : Stands (layout_of (kind_of d)) j (Number c w)) {m : Option ℤ} (q : m ≡ number_at t c w) where
    pub number_ill : m ≡ None → Broken 5 r c ≡ first_broken (block 2 r (checks_of d t))
    unfolding along form_checks fault_of
    number_ill z = sym (check_broken 2 r c 5 _ _ (rw (← q, z))) ∙ step (Number c w) e

    module _ (v : ℤ) (z : m ≡ Some v) where
      number_asked : Next c v
      unfolding along form_checks fault_of
      number_asked = rw (← q, z) at (sym (check_kept 2 r c 5 _ _ (rw (← q, z))) ∙ step (Number c w) e)

      pub number_broken : {x : Fault} → Err x ≡ first_asked (asked_of d t n (set ns n v)) → Broken (fault_number x) r c ≡ first_broken (block 2 r (checks_of d t))
      number_broken p = value_broken (Number c w) e refl v number_asked p

      pub number_next : Ok tt ≡ first_asked (asked_of d t n (set ns n v)) → Going d t r (set ns n v) (n + 1) (j + 1)
      number_next p = value_next (Number c w) e refl v number_asked p

  module _ (c w : ℕ) (e : Stands (layout_of (kind_of d)) j (Code c w)) {m : Option codes.Code} (q : m ≡ code_in t c w) where
    pub code_ill : m ≡ None → Broken 5 r c ≡ first_broken (block 2 r (checks_of d t))
    unfolding along form_checks fault_of
    code_ill z = sym (check_broken 2 r c 5 _ _ (rw (← q, z))) ∙ step (Code c w) e

    module _ (k : codes.Code) (z : m ≡ Some k) where
      code_asked : Next c k.value
      unfolding along form_checks fault_of
      code_asked = rw (← q, z) at (sym (check_kept 2 r c 5 _ _ (rw (← q, z))) ∙ step (Code c w) e)

      pub code_broken : {x : Fault} → Err x ≡ first_asked (asked_of d t n (set ns n k.value)) → Broken (fault_number x) r c ≡ first_broken (block 2 r (checks_of d t))
      code_broken p = value_broken (Code c w) e refl k.value code_asked p

      pub code_next : Ok tt ≡ first_asked (asked_of d t n (set ns n k.value)) → Going d t r (set ns n k.value) (n + 1) (j + 1)
      code_next p = value_next (Code c w) e refl k.value code_asked p

  module _ (c w : ℕ) (e : Stands (layout_of (kind_of d)) j (Name c w)) {m : Bool} (q : m ≡ text_at is_name t c w) where
    pub name_ill : m ≡ false → Broken 5 r c ≡ first_broken (block 2 r (checks_of d t))
    unfolding along form_checks fault_of
    name_ill z = sym (check_broken 2 r c 5 _ _ (rw (← q, z))) ∙ step (Name c w) e

    pub name_next : m ≡ true → Going d t r ns n (j + 1)
    unfolding along form_checks fault_of
    name_next z = record {
      many = g.many;
      room = next_room (Name c w) e n (omega arith);
      answer = sym (check_kept 2 r c 5 _ _ (rw (← q, z))) ∙ step (Name c w) e;
    }

  module _ (c w : ℕ) (e : Stands (layout_of (kind_of d)) j (Blank c w)) {m : Bool} (q : m ≡ text_at is_blanks t c w) where
    pub blank_ill : m ≡ false → Broken 5 r c ≡ first_broken (block 2 r (checks_of d t))
    unfolding along form_checks fault_of
    blank_ill z = sym (check_broken 2 r c 5 _ _ (rw (← q, z))) ∙ step (Blank c w) e

    pub blank_next : m ≡ true → Going d t r ns n (j + 1)
    unfolding along form_checks fault_of
    blank_next z = record {
      many = g.many;
      room = next_room (Blank c w) e n (omega arith);
      answer = sym (check_kept 2 r c 5 _ _ (rw (← q, z))) ∙ step (Blank c w) e;
    }
