use mathlib.Core.Path.{refl}
use borrow.Author.Rules.{rules}
use Rattle.std.proofs.lemmas.Result.{err_from_is_err_and}
use Rattle.verdict.proofs.Parts.{rows_none, rows_pass}
use Rattle.walk.proofs.Judging.{end_is, one_stops, one_done}
use Rattle.walk.proofs.stage_one.Goals as goal

pub loop-k-init : goal.loop-k-init
loop-k-init c = rows_none _

pub returns-in_err-judge_end : goal.returns-in_err-judge_end
returns-in_err-judge_end c =
    let p = err_from_is_err_and c.from_residual.result c.from_residual.ensures.1 in
    rw (p.1, p.2)
    (one_stops _ c.records_of-n.ensures.0 _ refl (end_is _ _ c.record_view.ensures c.in_err-judge_end.ensures) c.loop-k.invariant (search rules))

pub loop-k-preserved : goal.loop-k-preserved
loop-k-preserved c =
    rows_pass _ _ c.loop-k.invariant (end_is _ _ c.record_view.ensures c.in_ok-judge_end.ensures) refl

pub returns : goal.returns
returns c =
    one_done _ c.records_of-n.ensures.0 _ c.judge_length.ensures c.loop-k.invariant (search rules) (search rules)
