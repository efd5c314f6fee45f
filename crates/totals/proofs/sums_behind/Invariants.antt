-- `totals::sums_behind` meets its contract: what is left to add gives the sums of the whole, behind quiet records too. Assumes nothing.
use Prim.Native.Nat.{◌-◌, ◌≤◌}
use mathlib.Core.Path.{◌≡◌}
use Rattle.walk.specs.States.{state_at}
use Rattle.walk.specs.Stages.{records_of}
use Rattle.totals.specs.Totals.{rank_number, sums_from, sums_behind}
use Rattle.totals.specs.Adding.{Addable}
use Rattle.totals.proofs.sums_behind.Given as goal

abbrev pub invariant-loop-i : goal.invariant-loop-i
invariant-loop-i l =
    (l.i ≤ 6399936) × (l.state ≡ state_at l.file l.i) × (Addable l.i l.sums) × (sums_from (rank_number l.rank) l.file l.i (records_of l.file - l.i) l.sums ≡ sums_behind (rank_number l.rank) l.file l.k)

abbrev pub decreases-loop-i : goal.decreases-loop-i
decreases-loop-i l = l.n - l.i
