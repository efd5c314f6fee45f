-- `loops::broken` meets its contract: the refusal stands where the slot starts. Assumes nothing.
use Rattle.records.specs.Columns.{loop_entries}
use Rattle.links.proofs.LineLaws.{slot_told}
use Rattle.loops.proofs.broken.Goals as goal

pub returns : goal.returns
returns c = slot_told loop_entries c.requires c.slot_broken.ensures
