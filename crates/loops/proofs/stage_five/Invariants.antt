-- `loops::stage_five` meets its contract: the loop leaves at the first broken rule, passes quiet records, and carries what is kept of the
-- layer's lines and known of the next record's area. Assumes nothing.
use mathlib.Core.Path.{◌≡◌}
use Prim.Native.Nat.{◌-◌, ◌<◌}
use lib.ListN.{length}
use Rattle.layers.proofs.Walks.{Stands}
use Rattle.layers.proofs.Stages.{Passed}
use Rattle.entries.specs.Keeping.{Kept}
use Rattle.loops.specs.Loops.{area_record, areas_at, sixth}
use Rattle.loops.specs.Scanning.{Unrepeated, SoundTable}
use Rattle.loops.proofs.stage_five.Given as goal

abbrev pub invariant-loop-x : goal.invariant-loop-x
invariant-loop-x l = record {
  standing : Stands l.file l.table l.b l.x;
  passed : SoundTable l.file l.table l.b → Passed sixth (areas_at l.file l.table) l.file l.table l.b l.x;
  all_marks : length l.marks ≡ 20000;
  lines : SoundTable l.file l.table l.b → 0 < l.x.rows → Kept l.file l.table l.x.layer l.kept;
  slots : Unrepeated l.file (area_record l.table l.x.layer l.x.state.layer.area) l.known;
}

abbrev pub decreases-loop-x : goal.decreases-loop-x
decreases-loop-x l = l.n - l.x.records
