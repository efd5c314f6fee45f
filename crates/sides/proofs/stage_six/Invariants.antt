-- `sides::stage_six` meets its contract: the loop leaves at the first broken rule, and the marked file stays the file. Assumes nothing.
use mathlib.Core.Path.{◌≡◌}
use Prim.Native.Nat.{◌-◌}
use Rattle.layers.proofs.Walks.{Stands}
use Rattle.layers.proofs.Stages.{Passed}
use Rattle.sides.specs.Sides.{sides_at, seventh}
use Rattle.sides.proofs.stage_six.Given as goal

abbrev pub invariant-loop-x : goal.invariant-loop-x
invariant-loop-x l = record {
  standing : Stands l.file l.table l.b l.x;
  passed : Passed seventh (sides_at l.file l.table) l.file l.table l.b l.x;
  same_file : l.marked ≡ l.file;
}

abbrev pub decreases-loop-x : goal.decreases-loop-x
decreases-loop-x l = l.n - l.x.records
