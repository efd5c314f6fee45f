-- `judge::fill_sums` meets its contract: each turn stores the next layer's two sums behind the others. Assumes nothing.
use mathlib.Core.Path.{◌≡◌}
use Rattle.walk.specs.Table.{filled}
use Rattle.judge.specs.Outcomes.{pairs_to}
use Rattle.judge.proofs.fill_sums.Given as goal

abbrev pub invariant-loop-i : goal.invariant-loop-i
invariant-loop-i l = l.sums ≡ filled (pairs_to l.file l.table l.b l.i) l.initial.sums
