-- `walk::stage_two` meets its contract: the loop carries the state and the counts, passes what is fine at a glance and leaves at the first broken record;
-- behind it all are kept, and the end decides. Assumes nothing.
use mathlib.Core.Path.{◌≡◌}
use Prim.Native.Nat.{◌-◌, ◌≤◌}
use Rattle.verdict.specs.Rules.{Fine, first_broken, rows}
use Rattle.walk.specs.States.{state_at, counts_at}
use Rattle.walk.proofs.Judging.{stage_two_rules}
use Rattle.walk.proofs.stage_two.Given as goal

abbrev pub invariant-loop-k : goal.invariant-loop-k
invariant-loop-k l = (l.k ≤ l.n) × (l.s ≡ state_at l.file l.k) × (l.c ≡ counts_at l.file l.k) × (first_broken (rows l.k (stage_two_rules l.file)) ≡ Fine)

abbrev pub decreases-loop-k : goal.decreases-loop-k
decreases-loop-k l = l.n - l.k
