-- `walk::stage_one` meets its contract: the loop leaves at the first broken line end; behind it all are kept, and the length decides.
-- Assumes nothing.
use mathlib.Core.Path.{◌≡◌}
use Rattle.verdict.specs.Rules.{Fine, first_broken, rows}
use Rattle.walk.proofs.Judging.{ends_of}
use Rattle.walk.proofs.stage_one.Given as goal

abbrev pub invariant-loop-k : goal.invariant-loop-k
invariant-loop-k l = first_broken (rows l.k (ends_of l.file)) ≡ Fine
