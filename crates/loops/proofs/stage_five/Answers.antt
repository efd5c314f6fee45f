use mathlib.Core.Path.{refl, sym, ◌∙◌}
use native.Mathlib.Omega.{arith}
use borrow.Author.Rules.{rules}
use Rattle.std.proofs.lemmas.Result.{err_from_is_err_and}
use Rattle.walk.specs.States.{counts_at}
use Rattle.layers.proofs.Walks.{stands, records_are, rows_are, stands_behind, stands_past, records_past}
use Rattle.layers.proofs.Stages.{passed_first, passed_more, passed_quiet, stage_stops, stage_done}
use Rattle.loops.specs.Loops.{areas_at, sixth, stage_five}
use Rattle.loops.proofs.Repeats.{unrepeated_none}
use Rattle.loops.proofs.StageLaws.{kept_for, kept_new, kept_on, known_next, quiet_none}
use Rattle.loops.proofs.stage_five.Goals as goal
use Rattle.loops.proofs.stage_five.Goals.{then-is_layer, else-is_layer}

pub loop-x-init : goal.loop-x-init
unfolding counts_at
loop-x-init c =
    let e = c.at_first-x.ensures _ in record {
      standing = stands _ _ _ e (omega arith);
      passed = λ h. passed_first sixth (areas_at _ _) _ _ _ e;
      all_marks = search rules;
      lines = λ h p. absurd (omega (arith, p, rows_are _ _ _ e));
      slots = unrepeated_none _ _;
    }

pub returns-in_err-judge_record : goal.returns-in_err-judge_record
unfolding stage_five
returns-in_err-judge_record c =
    let i = c.loop-x.invariant in
    let p = err_from_is_err_and c.from_residual.result c.from_residual.ensures.1 in
    λ w.
    let h = c.in_err-judge_record.ensures (kept_for _ _ _ i.standing.here c.due-d.ensures _ (i.lines w)) in
    rw (p.1, p.2)
    (stage_stops sixth (areas_at _ _) _ _ _ i.standing.here c.records_of-n.ensures.0 c.loop-x-test.true (rw c.due-d.ensures at h) refl (i.passed w))

pub loop-x-smaller : goal.loop-x-smaller
loop-x-smaller c =
    let y = c.behind-x.ensures c.loop-x.invariant.standing.here (rw c.records_of-n.ensures.0 at c.loop-x-test.true) in
    omega (arith, c.loop-x-test.true, records_are _ _ _ y, records_past _ _ c.past_quiet-x.ensures)

pub loop-x-preserved : goal.loop-x-preserved
loop-x-preserved c =
    let i = c.loop-x.invariant in
    let e = i.standing.here in
    let m = rw c.records_of-n.ensures.0 at c.loop-x-test.true in
    let y = c.behind-x.ensures e m in
    let p = stands_behind _ _ _ i.standing m y in record {
      standing = stands_past _ _ _ p _ c.past_quiet-x.ensures;
      passed = λ s.
          let h = c.in_ok-judge_record.ensures (kept_for _ _ _ e c.due-d.ensures _ (i.lines s)) in
          let f = passed_more sixth (areas_at _ _) _ _ _ e y (rw c.due-d.ensures at h) refl (i.passed s) in
          passed_quiet sixth (areas_at _ _) _ _ _ p.here _ c.past_quiet-x.ensures (quiet_none _ _) f;
      all_marks = search rules;
      lines = λ s.
          rw c.past_quiet-x.ensures
          (elim c.if-is_layer.branch [
            | then-is_layer w ↦ λ h. kept_new _ _ _ e y c.due-d.ensures (sym c.is_layer.ensures ∙ w.if-is_layer.true) (w.kept-is ∙ w.keep.ensures) m s
            | else-is_layer w ↦ rw w.kept-is (kept_on _ _ _ e y c.due-d.ensures (sym c.is_layer.ensures ∙ w.if-is_layer.false) (i.lines s))
          ]);
      slots = rw c.past_quiet-x.ensures (known_next _ _ _ e y c.due-d.ensures c.known_behind-known.ensures);
    }

pub returns : goal.returns
unfolding stage_five
returns c =
    let i = c.loop-x.invariant in
    λ w. stage_done sixth (areas_at _ _) _ _ _ i.standing c.records_of-n.ensures.0 c.loop-x-test.false (i.passed w)
