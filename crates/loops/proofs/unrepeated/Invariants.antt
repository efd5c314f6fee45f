-- `loops::unrepeated` meets its contract: each turn leaves the mark of one slot more, and the function answers 0 at an entry whose
-- place bears the mark already. Assumes nothing.
use Rattle.loops.specs.Scanning.{Unrepeated}
use Rattle.loops.proofs.Repeats.{Marked}
use Rattle.loops.proofs.unrepeated.Given as goal

abbrev pub invariant-loop-e : goal.invariant-loop-e
invariant-loop-e l = Marked l.file l.a l.marks l.e × Unrepeated l.file l.a l.e
