use mathlib.Core.Path.{refl}
use native.Mathlib.Omega.{arith}
use borrow.Author.Rules.{rules}
use Rattle.std.proofs.lemmas.Result.{err_from_is_err_and}
use Rattle.layers.proofs.Walks.{stands, records_are, state_is, stands_behind, stands_past, records_past}
use Rattle.layers.proofs.Stages.{passed_first, passed_more, passed_quiet, stage_stops, stage_done}
use Rattle.sides.specs.Sides.{sides_at, seventh, stage_six}
use Rattle.sides.proofs.StageLaws.{due_countable, quiet_none}
use Rattle.sides.proofs.stage_six.Goals as goal

pub loop-x-init : goal.loop-x-init
loop-x-init c = record {
  standing = stands _ _ _ (c.at_first-x.ensures _) (omega arith);
  passed = passed_first seventh (sides_at _ _) _ _ _ (c.at_first-x.ensures _);
  same_file = search rules;
}

pub judge_record-requires : goal.judge_record-requires
judge_record-requires c =
    let i = c.loop-x.invariant in
    due_countable _ _ (state_is _ _ _ i.standing.here) c.due-d.ensures

pub returns-in_err-judge_record : goal.returns-in_err-judge_record
unfolding stage_six
returns-in_err-judge_record c =
    let i = c.loop-x.invariant in
    let p = err_from_is_err_and c.from_residual.result c.from_residual.ensures.1 in
    let h = rw (c.due-d.ensures, i.same_file) at c.in_err-judge_record.ensures in
    rw (p.1, p.2)
    (stage_stops seventh (sides_at _ _) _ _ _ i.standing.here c.records_of-n.ensures.0 c.loop-x-test.true h refl i.passed)

pub loop-x-smaller : goal.loop-x-smaller
loop-x-smaller c =
    let y = c.behind-x.ensures c.loop-x.invariant.standing.here (rw c.records_of-n.ensures.0 at c.loop-x-test.true) in
    omega (arith, c.loop-x-test.true, records_are _ _ _ y, records_past _ _ c.past_quiet-x.ensures)

pub loop-x-preserved : goal.loop-x-preserved
loop-x-preserved c =
    let i = c.loop-x.invariant in
    let k = rw c.records_of-n.ensures.0 at c.loop-x-test.true in
    let y = c.behind-x.ensures i.standing.here k in
    let p = stands_behind _ _ _ i.standing k y in
    let h = rw (c.due-d.ensures, i.same_file) at c.in_ok-judge_record.ensures in
    let f = passed_more seventh (sides_at _ _) _ _ _ i.standing.here y h refl i.passed in record {
      standing = stands_past _ _ _ p _ c.past_quiet-x.ensures;
      passed = passed_quiet seventh (sides_at _ _) _ _ _ p.here _ c.past_quiet-x.ensures (quiet_none _ _) f;
      same_file = search rules;
    }

pub returns : goal.returns
unfolding stage_six
returns c =
    let i = c.loop-x.invariant in
    stage_done seventh (sides_at _ _) _ _ _ i.standing c.records_of-n.ensures.0 c.loop-x-test.false i.passed
