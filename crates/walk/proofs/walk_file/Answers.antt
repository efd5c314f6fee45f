-- `walk::walk_file` meets its contract: a broken stage 1 is the answer; else stage 2's is. Assumes nothing.
use Rattle.std.proofs.lemmas.Result.{err_from_is_err_and}
use Rattle.walk.proofs.Judging.{walked_first, walked_second}
use Rattle.walk.proofs.walk_file.Goals as goal

pub returns-in_err-stage_one : goal.returns-in_err-stage_one
returns-in_err-stage_one c =
    let p = err_from_is_err_and c.from_residual.result c.from_residual.ensures.1 in
    rw (p.1, p.2) (walked_first _ c.in_err-stage_one.ensures)

pub returns : goal.returns
returns c = walked_second _ c.in_ok-stage_one.ensures c.stage_two.ensures
