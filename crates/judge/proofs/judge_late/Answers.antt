-- `judge::judge_late` meets its contract: the first of stages 3 to 6 that is broken stands, and behind three that are kept stage 6 speaks.
-- Assumes nothing.
use Rattle.std.proofs.lemmas.Result.{err_from_is_err_and}
use Rattle.judge.proofs.Loading.{counts_few, third_broken, fourth_broken, fifth_broken, sixth_speaks}
use Rattle.judge.proofs.judge_late.Goals as goal

pub bases_of-b-requires : goal.bases_of-b-requires
bases_of-b-requires c = counts_few _ c.requires.1

pub returns-in_err-stage_three : goal.returns-in_err-stage_three
returns-in_err-stage_three c =
    let p = err_from_is_err_and c.from_residual.result c.from_residual.ensures.1 in
    rw (p.1, p.2) (third_broken _ c.requires.0 c.requires.1 c.bases_of-b.ensures c.in_err-stage_three.ensures)

pub returns-in_err-stage_four : goal.returns-in_err-stage_four
returns-in_err-stage_four c =
    let p = err_from_is_err_and c.from_residual-in_err-stage_four.result c.from_residual-in_err-stage_four.ensures.1 in
    rw (p.1, p.2)
    (fourth_broken _ c.requires.0 c.requires.1 c.bases_of-b.ensures c.in_ok-stage_three.ensures c.in_err-stage_four.ensures)

pub returns-in_err-stage_five : goal.returns-in_err-stage_five
returns-in_err-stage_five c =
    let p = err_from_is_err_and c.from_residual-in_err-stage_five.result c.from_residual-in_err-stage_five.ensures.1 in
    rw (p.1, p.2)
    (fifth_broken _ c.requires.0 c.requires.1 c.bases_of-b.ensures c.in_ok-stage_three.ensures
    c.in_ok-stage_four.ensures c.requires.2 c.in_err-stage_five.ensures)

pub returns : goal.returns
returns c =
    sixth_speaks _ c.requires.0 c.requires.1 c.bases_of-b.ensures c.in_ok-stage_three.ensures
    c.in_ok-stage_four.ensures c.requires.2 c.in_ok-stage_five.ensures c.stage_six.ensures
