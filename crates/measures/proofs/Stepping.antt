-- One step of the walk on the machine: each product, difference and sum fits, so what the machine reads back is the step's number.
-- Assumes nothing.
use mathlib.Core.Path.{◌≡◌, ◌∙◌}
use lib.IntN.{ℤ, ◌+ℤ◌, ◌-ℤ◌, ◌*ℤ◌}
use mir.Facts.{to_z-of_z}
use mir.Syntax.{w64}
use mir.Val.{SFits, to_z, of_z}
use Rattle.measures.specs.Measures.{cross}
use Rattle.measures.specs.Walks.{Small, Near, far, where_at}
use Rattle.measures.specs.declared.Walk.{Walk}
use Rattle.measures.proofs.Bounds.{mul_small, sub_small, add_small, fits_by, read_back}

-- what the machine reads back of z
abbrev pub back : ℤ → ℤ
back z = to_z w64 (of_z w64 z)

module _ {w : Walk} {x y : ℤ} (g : Near far 1000000000000000000 w) (a : Small far x) (b : Small far y) where
  pub east_fits : SFits w64 (back x *ℤ back w.y)
  east_fits = rw (read_back w64 a tt, read_back w64 g.y tt) (fits_by (mul_small a g.y) tt)

  pub north_fits : SFits w64 (back w.x *ℤ back y)
  north_fits = rw (read_back w64 g.x tt, read_back w64 b tt) (fits_by (mul_small g.x b) tt)

  cross_is : back (back x *ℤ back w.y) -ℤ back (back w.x *ℤ back y) ≡ cross (where_at w) (record { x = x; y = y })
  cross_is = rw (to_z-of_z east_fits, to_z-of_z north_fits, read_back w64 a tt, read_back w64 g.y tt, read_back w64 g.x tt, read_back w64 b tt)

  cross_fits : SFits w64 (cross (where_at w) (record { x = x; y = y }))
  cross_fits = fits_by (sub_small (mul_small a g.y) (mul_small g.x b)) tt

  pub difference_fits : SFits w64 (back (back x *ℤ back w.y) -ℤ back (back w.x *ℤ back y))
  difference_fits = rw cross_is cross_fits

  sum_is : back w.sum +ℤ back (back (back x *ℤ back w.y) -ℤ back (back w.x *ℤ back y)) ≡ w.sum +ℤ cross (where_at w) (record { x = x; y = y })
  sum_is = rw (cross_is, to_z-of_z cross_fits, read_back w64 g.sum tt)

  pub sum_fits : SFits w64 (back w.sum +ℤ back (back (back x *ℤ back w.y) -ℤ back (back w.x *ℤ back y)))
  sum_fits = rw sum_is (fits_by (add_small g.sum (sub_small (mul_small a g.y) (mul_small g.x b))) tt)

  pub step_sum : back (back w.sum +ℤ back (back (back x *ℤ back w.y) -ℤ back (back w.x *ℤ back y)))
      ≡ w.sum +ℤ cross (where_at w) (record { x = x; y = y })
  step_sum = to_z-of_z sum_fits ∙ sum_is
