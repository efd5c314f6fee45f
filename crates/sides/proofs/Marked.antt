-- Marks: where they stand, that marking an area's entry keeps them true, and that a mark answers for the search. Assumes nothing.
use mathlib.Core.Bool.{Bool, true, false, cond, not}
use mathlib.Core.List.{List}
use mathlib.Core.Path.{◌≡◌, refl}
use Prim.Native.Nat.{ℕ, ◌+◌, ◌^◌, ◌≤◌, ◌<◌, ◌/◌}
use native.Mathlib.Omega.{arith}
use lib.Dec.{eqb, leb, ltb}
use lib.IntN.{ℤ}
use lib.ListN.{length, get_or, set, replicate, length-set, length-replicate, get_or-replicate}
use lib.Seq.{get_or-set_same, get_or-set_other}
use lib.Signed.{mag}
use mir.Syntax.{w32}
use mir.Val.{to_z, of_z, hbits}
use borrow.Author.Tests.{ltb-true, eqb-true, eqb-false, eq-eqb}
use Rattle.records.specs.View.{record_of, number_in}
use Rattle.verdict.proofs.Orders.{and_both}
use Rattle.permitted.specs.Permitted.{natural, size, same}
use Rattle.permitted.proofs.Signs.{passed_on}
use Rattle.walk.specs.States.{size_in}
use Rattle.walk.proofs.Walking.{size_small}
use Rattle.links.specs.Links.{entry_is, loop_entry}
use Rattle.links.proofs.Scans.{some_hit}
use Rattle.entries.specs.Entries.{slot_of, slots_of}
use Rattle.entries.proofs.Slots.{slots_none}
use Rattle.sides.specs.Sides.{lists}
use Rattle.sides.specs.Marking.{mark_at, Marks, put_mark, bears}

-- ---- an area's slots

-- slot e is +n or, backwards, -n
abbrev pub slot_is : List ℕ → ℕ → Bool → ℕ → ℕ → Bool
slot_is file a back n e = entry_is back n (slot_of file (a + 1) e)

-- a record with slots is one that the file has
pub area_there : (file : List ℕ) (a e : ℕ) {slots : ℕ} → slots ≡ slots_of file a → e < slots → a ≤ length file / 74
area_there file a e q l = grind (arith, slots_none)

-- a slot's number has at most 6 digits
slot_small : (file : List ℕ) (f e : ℕ) → size (slot_of file f e) ≤ 999999
unfolding slot_of loop_entry number_in size_in
slot_small file f e = size_small (record_of file _) _ 5

-- ---- an entry lists itself

same_self : (b : Bool) → same b b ≡ true
same_self true = refl
same_self false = refl

entry_self : (v : ℤ) → entry_is (not (natural v)) (size v) v ≡ true
unfolding entry_is
entry_self v = rw (eq-eqb (size v) (size v) refl, same_self (not (natural v)))

slot_listed : (file : List ℕ) (a e : ℕ) → e < slots_of file a → lists file a (not (natural (slot_of file (a + 1) e))) (size (slot_of file (a + 1) e)) ≡ true
unfolding lists
slot_listed file a e l = some_hit (slots_of file a) e (slot_is file a _ _) l (entry_self (slot_of file (a + 1) e))

-- ---- a mark more

-- no two entries share a place
same_place : (b d : Bool) (k n : ℕ) → mark_at b k ≡ mark_at d n → (b ≡ d) × (k ≡ n)
same_place true true k n e = (refl, omega arith)
same_place true false k n e = absurd (omega arith)
same_place false true k n e = absurd (omega arith)
same_place false false k n e = (refl, omega arith)

module _ (file marks : List ℕ) (back : Bool) (n a : ℕ) (h : lists file a back n ≡ true) (m : Marks file marks) where
  set_at : (b : Bool) (k : ℕ) (t : Bool) → eqb (mark_at b k) (mark_at back n) ≡ t → mark_at b k < length marks
      → 0 < get_or (set marks (mark_at back n) a) (mark_at b k) 0 → lists file (get_or (set marks (mark_at back n) a) (mark_at b k) 0) b k ≡ true
  set_at b k true e l p =
      let s = same_place b back k n (eqb-true (mark_at b k) (mark_at back n) e) in
      let i : mark_at back n < length marks = rw (s.0, s.1) at l in
      rw (s.0, s.1, get_or-set_same marks (mark_at back n) a 0 i) h
  set_at b k false e l p =
      let o = get_or-set_other marks (mark_at back n) (mark_at b k) a 0 (eqb-false (mark_at b k) (mark_at back n) e) in
      rw o (m.marked b k l (rw o at p))

  set_marks : Marks file (set marks (mark_at back n) a)
  set_marks = record { marked = λ b k l p. set_at b k (eqb (mark_at b k) (mark_at back n)) refl (rw length-set at l) p }

  put_marks : Marks file (put_mark marks (mark_at back n) a)
  unfolding put_mark
  put_marks = by (ltb (mark_at back n) (length marks))
    where
      by : (t : Bool) → Marks file (cond t (set marks (mark_at back n) a) marks)
      by true = set_marks
      by false = m

-- z is slot e, y whether it is natural, x its size
module _ (file : List ℕ) (a e : ℕ) {z : ℤ} {x : ℕ} (ok : mag z < 2 ^ hbits w32) (q : z ≡ slot_of file (a + 1) e) (s : x ≡ size (to_z w32 (of_z w32 z))) where
  pub marked_small : x ≤ 999999
  marked_small = rw (s, passed_on ok q) (slot_small file (a + 1) e)

  pub marked_more : {y : Bool} {i slots : ℕ} {marks after : List ℕ} → y ≡ natural (to_z w32 (of_z w32 z)) → i ≡ mark_at (not y) x
      → slots ≡ slots_of file a → e < slots → Marks file marks → after ≡ put_mark marks i a → Marks file after
  marked_more {marks = marks} h p f l m g =
      rw (g, p, h, s, passed_on ok q) (put_marks file marks _ _ a (slot_listed file a e (rw f at l)) m)

-- ---- what a mark says, and no marks

pub bears_listed : (file marks : List ℕ) (back : Bool) (n a : ℕ) → Marks file marks → bears marks back n a ≡ true → lists file a back n ≡ true
unfolding bears
bears_listed file marks back n a m h =
    let p = (and_both (leb n 999999) _ h).1 in
    let r = and_both (ltb (mark_at back n) (length marks)) _ p in
    let t = and_both (ltb 0 a) _ r.1 in
    let g = eqb-true (get_or marks (mark_at back n) 0) a t.1 in
    rw g at (m.marked back n (ltb-true _ _ r.0) (rw g (ltb-true 0 a t.0)))

pub no_marks : (file : List ℕ) (n : ℕ) → Marks file (replicate n 0)
no_marks file n = record { marked = λ b k l p. absurd (omega (arith, get_or-replicate {A = ℕ} n (mark_at b k) 0 0 (rw length-replicate at l), p)) }
