-- Repeated entries of an area without a scan: no slot repeats an earlier one where each found its place without the area's mark, since equal
-- entries leave their marks at one place. Assumes nothing.
use mathlib.Core.Bool.{Bool, true, false, not, ◌||◌, false≢true}
use mathlib.Core.List.{List}
use mathlib.Core.Path.{◌≡◌, refl, ap}
use Prim.Native.Nat.{ℕ, zero, suc, ◌+◌, ◌<◌}
use native.Mathlib.Omega.{arith}
use lib.IntN.{ℤ, pos, negsuc}
use lib.ListN.{get_or}
use borrow.Author.Count.{below_none, below_more}
use borrow.Author.Tests.{eqb-true}
use Rattle.permitted.specs.Permitted.{is_zero}
use Rattle.links.specs.Links.{equal, some, repeats, slot_of}
use Rattle.links.specs.Scanning.{clean}
use Rattle.loops.specs.Scanning.{mark_of, Unrepeated, Marking}

-- ---- marks

-- the first e slots bear the mark
pub record Marked (file : List ℕ) (a : ℕ) (marks : List ℕ) (e : ℕ) : Type 0 where
  pub marked : (j : ℕ) → j < e → is_zero (slot_of file (a + 1) j) ≡ false → get_or marks (mark_of (slot_of file (a + 1) j)) 0 ≡ a

-- at the beginning
pub unrepeated_none : (file : List ℕ) (a : ℕ) → Unrepeated file a 0
unrepeated_none file a = record { unrepeated = below_none _ }

-- ---- one slot more

equal_same : (v w : ℤ) → equal v w ≡ true → v ≡ w
unfolding equal
equal_same (pos m) (pos n) e = ap pos (eqb-true m n e)
equal_same (pos m) (negsuc n) e = absurd (false≢true e)
equal_same (negsuc m) (pos n) e = absurd (false≢true e)
equal_same (negsuc m) (negsuc n) e = let q : suc m ≡ suc n = eqb-true (suc m) (suc n) e in cc

some_not : (n : ℕ) (f : ℕ → Bool) → ((j : ℕ) → j < n → f j ≡ false) → some n f ≡ false
unfolding some
some_not zero f h = refl
some_not (suc n) f h = rw (some_not n f (λ j l. h j (omega arith)), h n (omega arith))

module _ (file : List ℕ) (a e : ℕ) {before after : List ℕ} (m : Marking before (slot_of file (a + 1) e) a true after) (h : Marked file a before e) where
  pub marked_more : Marked file a after (e + 1)
  marked_more =
      record {
        marked = below_more _ _ (λ j l z. m.kept refl (mark_of (slot_of file (a + 1) j)) (h.marked j l z)) (λ z. (m.fresh refl z).1);
      }

  -- no earlier slot is like slot e, an entry: its place would have borne the mark
  not_like : is_zero (slot_of file (a + 1) e) ≡ false → (j : ℕ) → j < e → equal (slot_of file (a + 1) e) (slot_of file (a + 1) j) ≡ false
  not_like z j l = by (equal (slot_of file (a + 1) e) (slot_of file (a + 1) j)) refl
    where
      by : (t : Bool) → equal (slot_of file (a + 1) e) (slot_of file (a + 1) j) ≡ t → t ≡ false
      by false q = refl
      by true q =
          let s = equal_same (slot_of file (a + 1) e) (slot_of file (a + 1) j) q in
          absurd ((m.fresh refl z).0 (rw s (h.marked j l (rw s at z))))

  pub unrepeated_more : Unrepeated file a e → Unrepeated file a (e + 1)
  unfolding clean
  unrepeated_more u = record { unrepeated = below_more _ _ u.unrepeated (by (is_zero (slot_of file (a + 1) e)) refl) }
    where
      by : (b : Bool) → is_zero (slot_of file (a + 1) e) ≡ b → b || not (repeats (slot_of file (a + 1)) e) ≡ true
      by true z = refl
      by false z = rw (some_not e (λ j. equal (slot_of file (a + 1) e) (slot_of file (a + 1) j)) (not_like z))
