-- `writers::write_name` meets its contract: what fits is copied, and what does not is refused before anything is written.
-- Assumes nothing.
use mathlib.Core.Path.{sym, ◌∙◌}
use Prim.Native.Nat.{◌+◌, ◌-◌, ◌≤◌}
use native.Mathlib.Omega.{arith}
use lib.ListN.{length}
use Rattle.writers.proofs.Answers.{name_unfit, name_unlike, name_fit, wrote_nothing, wrote_all, part_written}
use Rattle.fields.proofs.Places.{inside_bounds}
use Rattle.writers.proofs.write_name.Goals as goal
use Rattle.writers.proofs.write_name.Goals.{Else-not-inside}

-- past the first test the field lies inside
bounds : (c : Else-not-inside) → (1 ≤ c.args.column) × (c.args.column - 1 + c.args.width ≤ length c.args.buf.now)
bounds c = inside_bounds _ _ _ (sym c.inside.ensures ∙ c.if-not-inside.false)

pub returns-then-not-inside : goal.returns-then-not-inside
returns-then-not-inside c = wrote_nothing _ _ _ _ (name_unfit _ _ _ c.inside.ensures _ c.if-not-inside.true)

pub returns-then-name-width : goal.returns-then-name-width
returns-then-name-width c = wrote_nothing _ _ _ _ (name_unlike _ _ _ c.inside.ensures _ c.if-not-inside.false c.if-name-width.true)

pub returns-then-not-pairs : goal.returns-then-not-pairs
returns-then-not-pairs c =
    wrote_nothing _ _ _ _
    (name_fit _ _ _ c.inside.ensures _ c.if-not-inside.false c.if-name-width.false c.pairs.ensures
    ∙ c.if-not-pairs.true)

pub overflow_sub-at : goal.overflow_sub-at
overflow_sub-at c = let p = bounds (goal.at.overflow_sub-at c).Else-not-inside in omega arith

pub overflow_add-at : goal.overflow_add-at
overflow_add-at c = let p = bounds (goal.at.overflow_add-at c).Else-not-inside in omega arith

pub slice_bounds-copy_from_slice-end : goal.slice_bounds-copy_from_slice-end
slice_bounds-copy_from_slice-end c = let p = bounds (goal.at.slice_bounds-copy_from_slice-end c).Else-not-inside in omega arith

pub returns : goal.returns
returns c =
    wrote_all _ _ _ _
    (name_fit _ _ _ c.inside.ensures _ c.if-not-inside.false c.if-name-width.false c.pairs.ensures
    ∙ c.if-not-pairs.false)
    _ _ c.if-name-width.false (part_written _ _ _ c.copy_from_slice.ensures.after)
