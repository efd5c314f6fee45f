-- `codes::write_code` meets its contract: with mark 0 a number is written; with mark 1 the five bytes of land, where all tests are passed.
-- Assumes nothing.
use mathlib.Core.Path.{◌≡◌, sym, ◌∙◌}
use Prim.Native.Nat.{◌+◌, ◌-◌, ◌≤◌}
use native.Mathlib.Omega.{arith}
use lib.ListN.{length}
use mir.Facts.{to_z-of_z}
use Rattle.fields.proofs.Places.{inside_bounds}
use Rattle.codes.proofs.Steps.{number_written, mark_unfit, width_unfit, value_unfit, place_unfit, land_written, zero_value}
use Rattle.writers.proofs.Answers.{part_written}
use Rattle.codes.proofs.write_code.Goals as goal
use Rattle.codes.proofs.write_code.Goals.{Else-not-inside}

-- past all tests the field lies inside, and has five columns
bounds : (c : Else-not-inside) → (1 ≤ c.args.column) × (c.args.column - 1 + c.args.width ≤ length c.args.buf.now)
bounds c = inside_bounds _ _ _ (sym c.inside.ensures ∙ c.if-not-inside.false)

wide : (c : Else-not-inside) → c.args.width ≡ 5
wide c = c.if-width-ne5.false

pub returns-then-mark-eq0 : goal.returns-then-mark-eq0
returns-then-mark-eq0 c =
    rw (to_z-of_z c.ranges.value) at
    (number_written _ _ _ _ _ c.if-mark-eq0.true c.write_number.ensures)

pub returns-then-mark-ne1 : goal.returns-then-mark-ne1
returns-then-mark-ne1 c = mark_unfit _ _ _ _ _ c.if-mark-eq0.false c.if-mark-ne1.true

pub returns-then-width-ne5 : goal.returns-then-width-ne5
returns-then-width-ne5 c = width_unfit _ _ _ _ _ c.if-mark-ne1.false c.if-width-ne5.true

pub returns-then-value-ne0 : goal.returns-then-value-ne0
returns-then-value-ne0 c = value_unfit _ _ _ _ _ c.if-mark-ne1.false c.if-width-ne5.false c.if-value-ne0.true

pub returns-then-not-inside : goal.returns-then-not-inside
returns-then-not-inside c =
    place_unfit _ _ _ _ _ c.if-mark-ne1.false c.if-width-ne5.false
    c.inside.ensures c.if-not-inside.true

pub overflow_sub-at : goal.overflow_sub-at
overflow_sub-at c = let b = bounds (goal.at.overflow_sub-at c).Else-not-inside in omega (arith, wide (goal.at.overflow_sub-at c).Else-not-inside)

pub overflow_add-at : goal.overflow_add-at
overflow_add-at c = let b = bounds (goal.at.overflow_add-at c).Else-not-inside in omega (arith, wide (goal.at.overflow_add-at c).Else-not-inside)

pub slice_bounds-copy_from_slice-end : goal.slice_bounds-copy_from_slice-end
slice_bounds-copy_from_slice-end c = let b = bounds (goal.at.slice_bounds-copy_from_slice-end c).Else-not-inside in omega (arith, wide (goal.at.slice_bounds-copy_from_slice-end c).Else-not-inside)

pub returns : goal.returns
returns c =
    let b = bounds (goal.at.returns c).Else-not-inside in
    land_written _ _ _ _ _ c.if-mark-ne1.false (wide (goal.at.returns c).Else-not-inside) c.inside.ensures
    (zero_value _ c.ranges.value c.if-value-ne0.false) c.if-not-inside.false _
    (part_written _ _ 5 c.copy_from_slice.ensures.after)
