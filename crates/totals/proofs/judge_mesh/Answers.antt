-- `totals::judge_mesh` meets its contract: four totals in a row, the first broken one returned. Assumes nothing.
use mathlib.Core.Path.{refl}
use Rattle.std.proofs.lemmas.Result.{err_from_is_err_and}
use Rattle.verdict.proofs.Parts.{part_stops, part_passes}
use Rattle.totals.specs.Totals.{mesh_totals, fourth}
use Rattle.totals.proofs.judge_mesh.Goals as goal

pub returns-in_err-judge_total : goal.returns-in_err-judge_total
unfolding mesh_totals
returns-in_err-judge_total c =
    let p = err_from_is_err_and c.from_residual.result c.from_residual.ensures.1 in
    rw (p.1, p.2) (part_stops fourth _ _ _ refl c.in_err-judge_total.ensures)

pub returns-in_err-judge_total-2 : goal.returns-in_err-judge_total-2
unfolding mesh_totals
returns-in_err-judge_total-2 c =
    let p = err_from_is_err_and c.from_residual-in_err-judge_total-2.result c.from_residual-in_err-judge_total-2.ensures.1 in
    rw (p.1, p.2)
    (part_passes fourth _ _ _ refl c.in_ok-judge_total.ensures
    (part_stops fourth _ _ _ refl c.in_err-judge_total-2.ensures))

pub returns-in_err-judge_total-3 : goal.returns-in_err-judge_total-3
unfolding mesh_totals
returns-in_err-judge_total-3 c =
    let p = err_from_is_err_and c.from_residual-in_err-judge_total-3.result c.from_residual-in_err-judge_total-3.ensures.1 in
    rw (p.1, p.2)
    (part_passes fourth _ _ _ refl c.in_ok-judge_total.ensures
    (part_passes fourth _ _ _ refl c.in_ok-judge_total-2.ensures
    (part_stops fourth _ _ _ refl c.in_err-judge_total-3.ensures)))

pub returns : goal.returns
unfolding mesh_totals
returns c =
    part_passes fourth _ _ _ refl c.in_ok-judge_total.ensures
    (part_passes fourth _ _ _ refl c.in_ok-judge_total-2.ensures
    (part_passes fourth _ _ _ refl c.in_ok-judge_total-3.ensures
    c.judge_total-4.ensures))
