-- A coordinate record at a glance: number by number `Going` goes on where the number may be what it is, and else the record is broken
-- there. Assumes nothing.
use mathlib.Core.Bool.{Bool, true, false, cond}
use mathlib.Core.List.{List, [], ◌∷◌}
use mathlib.Core.Path.{◌≡◌, refl, sym, ap, ◌∙◌}
use Prim.Native.Nat.{ℕ, suc, ◌+◌, ◌*◌, ◌/◌, ◌≤◌, ◌<◌}
use native.Mathlib.Omega.{arith}
use lib.Dec.{leb, ltb}
use lib.IntN.{ℤ, pos, negsuc}
use lib.ListN.{length, set}
use lib.Seq.{get_or-set_same}
use borrow.Author.Tests.{le-leb, leb-true, eq-eqb, ne_eqb}
use Rattle.fields.specs.Number.{number_at}
use Rattle.fields.specs.Text.{is_blanks, text_at}
use Rattle.std.specs.Prelude.{Option, Some, None, Result, Ok, Err, ⊤}
use Rattle.asks.specs.declared.Fault.{Fault}
use Rattle.asks.specs.declared.Fault.TheVariants.{NotPermitted}
use Rattle.records.specs.Layout.{layout_of}
use Rattle.records.specs.Reading.{zeros}
use Rattle.records.proofs.Layouts.{coordinate_laid}
use Rattle.verdict.specs.Rules.{first_broken, is_fine, block}
use Rattle.rules.specs.declared.Due.TheVariants.{Coordinates}
use Rattle.permitted.specs.Permitted.{within, is_point}
use Rattle.asks.specs.Asks.{permitted, at, coordinate_asks, first_asked}
use Rattle.rules.specs.Checks.{asks_of, asked_of, checks_of}
use Rattle.rules.proofs.Going.{Going, start, number_ill, number_broken, number_next, blank_ill, blank_next, ends}
use Rattle.asks.proofs.Slots.{row_at}

-- what the loop keeps, whatever the record's number is: what is left behind the first i numbers gives the answer of the whole
pub record Glancing (left : ℕ) (t : List ℕ) (i : ℕ) : Type 0 where
  pub numbers : List ℤ
  pub going : (row : ℕ) → Going (Coordinates left) t row numbers i i

pub glancing : (left : ℕ) (t : List ℕ) → Glancing left t 0
glancing left t = record { numbers = zeros; going = start (Coordinates left) t }

-- a number that is at most what it may be is permitted
point_kept : (counted : Bool) (n : ℕ) → n ≤ cond counted 10000 0 → is_point counted (pos n) ≡ true
unfolding is_point within
point_kept true n h = rw (le-leb 0 n (omega arith), le-leb n 10000 h)
point_kept false n h = eq-eqb n 0 (omega arith)

-- and no other value is
point_broken : (counted : Bool) (v : ℤ) → ((n : ℕ) → v ≡ pos n → n ≤ cond counted 10000 0 → ⊥) → is_point counted v ≡ false
unfolding is_point within
point_broken true (pos n) h = rw (le-leb 0 n (omega arith)) (by (leb n 10000) refl)
  where
    by : (t : Bool) → leb n 10000 ≡ t → t ≡ false
    by true l = absurd (h n refl (leb-true _ _ l))
    by false l = refl
point_broken true (negsuc n) h = refl
point_broken false (pos n) h = ne_eqb n 0 (λ e. h n refl (omega arith))
point_broken false (negsuc n) h = ne_eqb (suc n) 0 (λ e. omega arith)

-- what is asked of a number: whether it may be what it is
abbrev point_answer : Bool → Result ⊤ Fault
point_answer b = cond b (Ok tt) (Err NotPermitted)

-- that is all that is asked of number i
number_asked : (left i : ℕ) (t : List ℕ) (ns : List ℤ) {v : ℤ} {b : Bool} → i < 14 → at ns i ≡ v
    → is_point (ltb (i / 2) left) v ≡ b → point_answer b ≡ first_asked (asked_of (Coordinates left) t i ns)
unfolding asked_of asks_of coordinate_asks first_asked
number_asked left i t ns l e h =
    let q = ap (is_point (ltb (i / 2) left)) e ∙ h in
    sym (ap first_asked (row_at _ 14 i [] l) ∙ ap (λ b. first_asked (permitted b ∷ [])) q)

module _ {left i : ℕ} {t : List ℕ} (g : Glancing left t i) (l : i < 14) where
  -- number i, with the value v that stands there
  asked : (v : ℤ) {b : Bool} → is_point (ltb (i / 2) left) v ≡ b → point_answer b ≡ first_asked (asked_of (Coordinates left) t i (set g.numbers i v))
  asked v h =
      let w : i < length g.numbers = rw (g.going 0).many (omega arith) in
      number_asked left i t (set g.numbers i v) l (get_or-set_same g.numbers i v (pos 0) w) h

  -- it may be what it is
  pub number_glanced : {n : ℕ} → number_at t (1 + 5 * i) 5 ≡ Some (pos n) → n ≤ cond (ltb (i / 2) left) 10000 0 → Glancing left t (i + 1)
  unfolding layout_of
  number_glanced {n} e h =
      let k = asked (pos n) (point_kept (ltb (i / 2) left) n h) in
      record { numbers = set g.numbers i (pos n); going = λ row. number_next (g.going row) (1 + 5 * i) 5 (coordinate_laid i l) refl (pos n) e k }

  -- it is none, or none that may be: the record is broken there
  stopped_by : (x : Option ℤ) → number_at t (1 + 5 * i) 5 ≡ x → ((n : ℕ) → x ≡ Some (pos n) → n ≤ cond (ltb (i / 2) left) 10000 0 → ⊥)
      → (row : ℕ) → false ≡ is_fine (first_broken (block 2 row (checks_of (Coordinates left) t)))
  unfolding layout_of
  stopped_by None e h row = ap is_fine (number_ill (g.going row) (1 + 5 * i) 5 (coordinate_laid i l) refl e)
  stopped_by (Some v) e h row =
      let k = asked v (point_broken (ltb (i / 2) left) v (λ n q. h n (ap Some q))) in
      ap is_fine (number_broken (g.going row) (1 + 5 * i) 5 (coordinate_laid i l) refl v e k)

  -- a glance is sure of a number above what it may be; or it is sure of none
  pub number_above : {n : ℕ} → number_at t (1 + 5 * i) 5 ≡ Some (pos n) → cond (ltb (i / 2) left) 10000 0 < n
      → (row : ℕ) → false ≡ is_fine (first_broken (block 2 row (checks_of (Coordinates left) t)))
  number_above {n} e h = stopped_by (Some (pos n)) e (λ m q k. let z : n ≡ m = cc in omega arith)

  pub number_none : ((n : ℕ) → number_at t (1 + 5 * i) 5 ≡ Some (pos n) → 100000 ≤ n)
      → (row : ℕ) → false ≡ is_fine (first_broken (block 2 row (checks_of (Coordinates left) t)))
  number_none h = stopped_by (number_at t (1 + 5 * i) 5) refl (λ n q k. small (ltb (i / 2) left) n k (h n q))
    where
      small : (b : Bool) (n : ℕ) → n ≤ cond b 10000 0 → 100000 ≤ n → ⊥
      small true n k m = omega arith
      small false n k m = omega arith

-- behind all of them the blank is left, and then the layout ends: the blank decides
module _ {left : ℕ} {t : List ℕ} (g : Glancing left t 14) where
  pub last_glanced : (b : Bool) → b ≡ text_at is_blanks t 71 2 → (row : ℕ) → b ≡ is_fine (first_broken (block 2 row (checks_of (Coordinates left) t)))
  unfolding layout_of
  last_glanced true e row = ap is_fine (ends (blank_next (g.going row) 71 2 refl e refl) (omega arith))
  last_glanced false e row = ap is_fine (blank_ill (g.going row) 71 2 refl e refl)
