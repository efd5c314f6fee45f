use Rattle.permitted.proofs.Signs.{passed_on}
use Rattle.loops.proofs.Repeats.{marked_more, unrepeated_more}
use Rattle.loops.proofs.unrepeated.Goals as goal

pub loop-e-preserved : goal.loop-e-preserved
loop-e-preserved c =
    let m = rw (passed_on c.slot_of.type_inv c.slot_of.ensures, c.if-not-mark.false) at c.mark.ensures in
    (marked_more _ _ _ m c.loop-e.invariant.0, unrepeated_more _ _ _ m c.loop-e.invariant.0 c.loop-e.invariant.1)
