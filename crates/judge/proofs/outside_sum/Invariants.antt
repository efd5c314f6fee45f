-- `judge::outside_sum` meets its contract: the loop adds up what the lines add one by one, and every partial sum fits. Assumes nothing.
use mathlib.Core.Path.{◌≡◌}
use Rattle.measures.specs.Sum.{sum_to}
use Rattle.judge.specs.Measuring.{outside_at}
use Rattle.judge.proofs.outside_sum.Given as goal

abbrev pub invariant-loop-i : goal.invariant-loop-i
invariant-loop-i l = (l.sum ≡ sum_to l.i (outside_at l.file l.table l.l))
