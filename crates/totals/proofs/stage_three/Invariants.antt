-- `totals::stage_three` meets its contract: the loop leaves at the first broken total, and quiet records have none. Assumes nothing.
use mathlib.Core.Path.{◌≡◌}
use Prim.Native.Nat.{◌-◌, ◌≤◌}
use Rattle.verdict.specs.Rules.{Fine, first_broken, rows}
use Rattle.walk.specs.States.{state_at}
use Rattle.totals.proofs.Summing.{totals_of}
use Rattle.totals.proofs.stage_three.Given as goal

abbrev pub invariant-loop-k : goal.invariant-loop-k
invariant-loop-k l = (l.k ≤ l.n) × (l.s ≡ state_at l.file l.k) × (first_broken (rows l.k (totals_of l.file)) ≡ Fine)

abbrev pub decreases-loop-k : goal.decreases-loop-k
decreases-loop-k l = l.n - l.k
