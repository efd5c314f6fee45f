-- Measures added up slot by slot. What is kept of a line is small, so no sum of them grows too large. Assumes nothing.
use mathlib.Core.Bool.{Bool, true, false, cond}
use mathlib.Core.List.{List}
use mathlib.Core.Path.{◌≡◌, sym, ◌∙◌, ap}
use Prim.Native.Nat.{ℕ, zero, suc, ◌+◌, ◌*◌, ◌<◌}
use native.Mathlib.Numerals.{add-one}
use native.Mathlib.Omega.{arith}
use lib.IntN.{ℤ, pos, negsuc, neg_ℤ, ◌+ℤ◌, ◌-ℤ◌, +ℤ_idr}
use mir.Facts.{to_z-of_z}
use mir.Syntax.{w32, w64}
use mir.Val.{SFits, to_z, of_z}
use Rattle.permitted.specs.Permitted.{natural, size}
use Rattle.permitted.proofs.Signs.{own_told}
use Rattle.measures.specs.Measures.{entry_measure, loop_measure}
use Rattle.measures.specs.Sum.{sum}
use Rattle.measures.specs.Walks.{Small}
use Rattle.measures.proofs.Bounds.{add_small, neg_small, small_le, fits_by, read_back, zero_minus}
use Rattle.measures.proofs.SumLaws.{sum_append}
use Rattle.entries.specs.Entries.{slot_of, entry_of, entries_to}
use Rattle.entries.specs.Loops.{slot_measure}
use Rattle.entries.proofs.Keeping.{most, kept_small}

-- ---- what the machine gives back

-- the difference `0 - z`
turned_is : {z : ℤ} → Small most z → pos 0 -ℤ to_z w64 (of_z w64 z) ≡ neg_ℤ z
turned_is {z} p = rw (read_back w64 p tt) (zero_minus z)

pub turned_fits : {z : ℤ} → Small most z → SFits w64 (pos 0 -ℤ to_z w64 (of_z w64 z))
turned_fits p = rw (turned_is p) (fits_by (neg_small p) tt)

pub turned_back : {z : ℤ} → Small most z → to_z w64 (of_z w64 (pos 0 -ℤ to_z w64 (of_z w64 z))) ≡ neg_ℤ z
turned_back p = to_z-of_z (turned_fits p) ∙ turned_is p

-- z more than the sum x of e measures
module _ {x z : ℤ} {e : ℕ} (h : e < 10008) (p : Small (e * most) x) (q : Small most z) where
  sum_near : Small ((e + 1) * most) (x +ℤ to_z w64 (of_z w64 z))
  sum_near = rw (read_back w64 q tt) (small_le _ (add_small p q) (omega arith))

  pub sum_fits : SFits w64 (x +ℤ to_z w64 (of_z w64 z))
  sum_fits = fits_by (small_le 2001600000000000000 sum_near (omega arith)) tt

  pub sum_small : Small ((e + 1) * most) (to_z w64 (of_z w64 (x +ℤ to_z w64 (of_z w64 z))))
  sum_small = rw (to_z-of_z sum_fits) sum_near

  pub sum_is : to_z w64 (of_z w64 (x +ℤ to_z w64 (of_z w64 z))) ≡ x +ℤ z
  sum_is = to_z-of_z sum_fits ∙ rw (read_back w64 q tt)

-- ---- slots, where m gives each line's measure, which is small

module _ (m : ℕ → ℤ) (small : (n : ℕ) → Small most (m n)) where
  pub slot_small : (v : ℤ) → Small most (slot_measure m v)
  unfolding slot_measure
  slot_small v = by (natural v)
    where
      by : (t : Bool) → Small most (cond t (m (size v)) (neg_ℤ (m (size v))))
      by true = small (size v)
      by false = neg_small (small (size v))

  -- the measure z of the line that v names, added or taken away
  module _ {v z : ℤ} (f : SFits w32 v) (p : z ≡ m (size (to_z w32 (of_z w32 v)))) where
    line_is : z ≡ m (size v)
    line_is = own_told (λ v. m (size v)) f p

    pub line_small : Small most z
    line_small = rw line_is (small (size v))

    pub entry_forwards : natural v ≡ true → to_z w64 (of_z w64 z) ≡ slot_measure m v
    unfolding slot_measure
    entry_forwards n = rw n (read_back w64 line_small tt ∙ line_is)

    pub entry_backwards : natural v ≡ false → to_z w64 (of_z w64 (pos 0 -ℤ to_z w64 (of_z w64 z))) ≡ slot_measure m v
    unfolding slot_measure
    entry_backwards n = rw n (turned_back line_small ∙ ap neg_ℤ line_is)

pub ruleset entry_laws = (kept_small, turned_fits, line_small, entry_forwards, entry_backwards)

-- ---- a slot more, where no line is numbered 0

module _ (m : ℕ → ℤ) (none : m 0 ≡ pos 0) where
  entry_sum : (v : ℤ) → sum (entry_measure m) (entry_of v) ≡ slot_measure m v
  unfolding sum slot_measure
  entry_sum (pos zero) = sym none
  entry_sum (pos (suc n)) = +ℤ_idr (m (suc n))
  entry_sum (negsuc n) = +ℤ_idr (neg_ℤ (m (suc n)))

  pub loop_more : (file : List ℕ) (f e : ℕ) → loop_measure m (entries_to file f (e + 1)) ≡ loop_measure m (entries_to file f e) +ℤ slot_measure m (slot_of file f e)
  unfolding loop_measure entries_to
  loop_more file f e = rw (add-one, sum_append, entry_sum (slot_of file f e))
