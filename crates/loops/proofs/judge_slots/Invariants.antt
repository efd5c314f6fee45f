-- `loops::judge_slots` meets its contract: a slot that is fine is clean, so the loop never passes the slot that the scan found. Assumes
-- nothing.
use mathlib.Core.Path.{◌≡◌}
use Prim.Native.Nat.{◌≤◌}
use Rattle.verdict.specs.Rules.{Fine, first_broken, rows}
use Rattle.links.proofs.Scans.{slot_rules}
use Rattle.loops.specs.Loops.{loop_slot, sixth}
use Rattle.loops.proofs.judge_slots.Given as goal

abbrev pub invariant-loop-i : goal.invariant-loop-i
invariant-loop-i l = (l.i ≤ l.at) × (first_broken (rows l.i (slot_rules sixth l.row (loop_slot l.file l.table l.l l.a l.area l.f l.row))) ≡ Fine)
