-- `links::judge_node` meets its contract: a slot that is fine is clean, so the loop never passes the slot that the scan found. Assumes nothing.
use mathlib.Core.Path.{◌≡◌}
use Prim.Native.Nat.{◌≤◌}
use Rattle.verdict.specs.Rules.{Fine, first_broken, rows}
use Rattle.links.specs.Links.{node_slot, fifth}
use Rattle.links.proofs.Scans.{slot_rules}
use Rattle.links.proofs.judge_node.Given as goal

abbrev pub invariant-loop-i : goal.invariant-loop-i
invariant-loop-i l = (l.i ≤ l.at) × (first_broken (rows l.i (slot_rules fifth l.row (node_slot l.file l.table l.l l.row))) ≡ Fine)
