use mathlib.Core.Path.{refl, ◌∙◌}
use native.Mathlib.Nat.{le_refl}
use borrow.Author.Rules.{rules}
use Rattle.std.proofs.lemmas.Result.{err_from_is_err_and}
use Rattle.verdict.proofs.Parts.{rows_none, rows_pass}
use Rattle.walk.proofs.Walking.{at_none, next_state}
use Rattle.walk.proofs.Passing.{pass_are_quiet, passed_state}
use Rattle.totals.proofs.Summing.{rule_is, three_quiet, three_stops, three_done}
use Rattle.totals.proofs.stage_three.Goals as goal

pub loop-k-init : goal.loop-k-init
loop-k-init c = (search rules, c.at_start-s.ensures ∙ at_none _, rows_none _)

pub judge_totals-requires : goal.judge_totals-requires
judge_totals-requires c = (
  search rules,
  next_state _ _ c.loop-k.invariant.1 (rw (← c.record_view.ensures) c.next-next.ensures),
)

pub returns-in_err-judge_totals : goal.returns-in_err-judge_totals
returns-in_err-judge_totals c =
    let p = err_from_is_err_and c.from_residual.result c.from_residual.ensures.1 in
    rw (p.1, p.2)
    (three_stops _ c.records_of-n.ensures.0 _ refl
    (rule_is _ _ c.loop-k.invariant.1 c.due-d.ensures c.in_err-judge_totals.ensures) c.loop-k.invariant.2 c.loop-k-test.true)

pub loop-k-preserved : goal.loop-k-preserved
loop-k-preserved c =
    let j = c.in_ok-judge_totals.ensures in
    let n = c.next-next.ensures in
    let r = c.record_view.ensures in
    let d = c.due-d.ensures in
    let l = c.loop-k.invariant in
    let e = next_state _ _ l.1 (rw r at n) in
    let q = pass_are_quiet _ _ c.pass_quiet-p.ensures.0 in (
      search rules,
      c.pass_quiet-p.ensures.1 ∙ passed_state _ _ e q _ (le_refl _),
      three_quiet _ _ e q (rows_pass _ _ l.2 (rule_is _ _ l.1 d j) refl),
    )

pub returns : goal.returns
returns c = three_done _ c.records_of-n.ensures.0 _ c.loop-k.invariant.2 c.loop-k.invariant.0 c.loop-k-test.false
