-- `walk::fill` meets its contract: the loop carries the state, the counts and the sections as they are behind the records so
-- far; behind all of them they are the table. Assumes nothing.
use mathlib.Core.Path.{◌≡◌}
use Prim.Native.Nat.{◌-◌, ◌≤◌}
use Rattle.walk.specs.States.{state_at, counts_at}
use Rattle.walk.proofs.Filling.{stored_to}
use Rattle.walk.proofs.fill.Given as goal

abbrev pub invariant-loop-k : goal.invariant-loop-k
invariant-loop-k l = (l.k ≤ l.n) × (l.s ≡ state_at l.file l.k) × (l.c ≡ counts_at l.file l.k) × (l.table ≡ stored_to l.file l.n l.k l.initial.table)

abbrev pub decreases-loop-k : goal.decreases-loop-k
decreases-loop-k l = l.n - l.k
