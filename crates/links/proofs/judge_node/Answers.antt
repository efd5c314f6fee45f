use native.Mathlib.Nat.{zero-add}
use lib.Dec.{lit≤}
use Rattle.links.specs.Links.{node_entry}
use Rattle.links.specs.Scanning.{FirstRepeat}
use Rattle.links.proofs.Scans.{repeats_at}
use Rattle.links.proofs.judge_node.Goals as goal
use Rattle.links.proofs.judge_node.Goals.{After-first_repeat-at}

-- what the scan says of the node's slots
scanned : (c : After-first_repeat-at) → FirstRepeat (node_entry c.args.file.now c.args.row) 0 9 c.first_repeat-at.result
scanned c = c.first_repeat-at.ensures (lit≤ tt)

pub judge_slot-requires : goal.judge_slot-requires
judge_slot-requires c =
    let q = repeats_at (node_entry _ _) 0 9 _ _ (scanned (goal.at.judge_slot-requires c).After-first_repeat-at) c.loop-i-test.true c.loop-i.invariant.0 in
    (c.loop-i-test.true, rw zero-add at q)
