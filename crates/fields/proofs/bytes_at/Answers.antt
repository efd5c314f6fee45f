-- `fields::bytes_at` meets its contract: where the columns lie within `s`, the part that is cut out is their bytes.
use Rattle.std.proofs.Common.{◌+◌, ◌-◌, ◌≤◌, length, sym, arith, ◌∙◌}
use Rattle.fields.proofs.Places.{inside_bounds, part_is}
use Rattle.fields.proofs.bytes_at.Goals as goal
use Rattle.fields.proofs.bytes_at.Goals.{Else-not-inside}

-- past the test the columns lie within `s`
bounds : (c : Else-not-inside) → (1 ≤ c.args.column) × (c.args.column - 1 + c.args.width ≤ length c.args.s.now)
bounds c = inside_bounds _ _ _ (sym c.inside.ensures ∙ c.if-not-inside.false)

pub overflow_sub-at : goal.overflow_sub-at
overflow_sub-at c = let p = bounds (goal.at.overflow_sub-at c).Else-not-inside in omega arith

pub overflow_add-result : goal.overflow_add-result
overflow_add-result c = let p = bounds (goal.at.overflow_add-result c).Else-not-inside in omega arith

pub slice_bounds-result-end : goal.slice_bounds-result-end
slice_bounds-result-end c = let p = bounds (goal.at.slice_bounds-result-end c).Else-not-inside in omega arith

pub returns : goal.returns
returns c = (sym c.inside.ensures ∙ c.if-not-inside.false, part_is _ _ _)
