use native.Mathlib.Omega.{arith}
use Rattle.sides.proofs.Marked.{area_there, marked_small, marked_more}
use Rattle.sides.proofs.MarkedFile.mark_area.Goals as goal

pub overflow_add-a : goal.overflow_add-a
overflow_add-a c = omega (arith, area_there _ _ _ c.area_slots-e-end.ensures.0 c.loop-e-test.true)

pub mark_at-requires : goal.mark_at-requires
mark_at-requires c = marked_small _ _ _ c.slot_of-v.type_inv c.slot_of-v.ensures c.size.ensures

pub loop-e-preserved : goal.loop-e-preserved
loop-e-preserved c = (
  c.loop-e.invariant.0,
  marked_more _ _ _ c.slot_of-v.type_inv c.slot_of-v.ensures c.size.ensures c.natural.ensures
      c.mark_at.ensures c.area_slots-e-end.ensures.0 c.loop-e-test.true c.loop-e.invariant.1 c.put_mark.ensures,
)
