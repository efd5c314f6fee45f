-- `links::stage_four` meets its contract: the loop leaves at the first broken rule, and passes records that break none. Assumes nothing.
use Prim.Native.Nat.{◌-◌}
use Rattle.layers.proofs.Walks.{Stands}
use Rattle.layers.proofs.Stages.{Passed}
use Rattle.links.specs.Links.{links_at, fifth}
use Rattle.links.proofs.stage_four.Given as goal

abbrev pub invariant-loop-x : goal.invariant-loop-x
invariant-loop-x l = Stands l.file l.table l.b l.x × Passed fifth (links_at l.file l.table) l.file l.table l.b l.x

abbrev pub decreases-loop-x : goal.decreases-loop-x
decreases-loop-x l = l.n - l.x.records
