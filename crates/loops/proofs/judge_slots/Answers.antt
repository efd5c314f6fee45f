use mathlib.Core.Path.{refl, sym}
use borrow.Author.Rules.{rules}
use Rattle.std.proofs.lemmas.Result.{err_from_is_err_and}
use Rattle.verdict.proofs.Parts.{rows_none, rows_pass}
use Rattle.links.specs.Links.{slot_of}
use Rattle.links.proofs.Scans.{repeats_at, goes_past, slots_stop, slots_done}
use Rattle.loops.specs.Loops.{loop_slot, sixth}
use Rattle.loops.proofs.SlotLaws.{slot_clean}
use Rattle.loops.proofs.judge_slots.Goals as goal

pub loop-i-init : goal.loop-i-init
loop-i-init c = (search rules, rows_none _)

pub judge_slot-requires : goal.judge_slot-requires
judge_slot-requires c =
    (c.loop-i-test.true, repeats_at (slot_of _ _) _ 12 _ _ c.requires c.loop-i-test.true c.loop-i.invariant.0)

pub returns-in_err-judge_slot : goal.returns-in_err-judge_slot
returns-in_err-judge_slot c =
    let p = err_from_is_err_and c.from_residual.result c.from_residual.ensures.1 in
    rw (p.1, p.2)
    (slots_stop sixth _ 12 (loop_slot _ _ _ _ _ _ _) _ refl c.in_err-judge_slot.ensures c.loop-i.invariant.1 c.loop-i-test.true)

pub loop-i-preserved : goal.loop-i-preserved
loop-i-preserved c =
    let e = c.in_ok-judge_slot.ensures in (
      goes_past (slot_of _ _) _ 12 _ _ c.requires c.loop-i-test.true c.loop-i.invariant.0 (slot_clean _ _ _ _ _ _ _ _ (sym e)),
      rows_pass _ _ c.loop-i.invariant.1 e refl,
    )

pub returns : goal.returns
returns c =
    slots_done sixth _ 12 (loop_slot _ _ _ _ _ _ _) _ c.loop-i.invariant.1 (search rules) c.loop-i-test.false
