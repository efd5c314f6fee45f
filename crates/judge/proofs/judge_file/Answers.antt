-- `judge::judge_file` meets its contract: a refusal up to 9 stands, and behind none of them the later stages speak. Assumes nothing.
use mathlib.Core.Path.{sym}
use lib.Seq.{length-take-le}
use Rattle.std.proofs.lemmas.Result.{err_from_is_err_and}
use Rattle.judge.proofs.Loading.{early_judged, early_table, two_kept, all_counts, words_fit, words_are, late_broken, late_kept, late_table}
use Rattle.judge.proofs.judge_file.Goals as goal

pub returns-in_err-counts : goal.returns-in_err-counts
returns-in_err-counts c =
    let t = c.in_err-counts.ensures in
    let p = err_from_is_err_and c.from_residual.result c.from_residual.ensures.1 in
    (rw (p.1, p.2) (early_judged _ _ t.0), early_table _ _ t.0 t.1)

pub slice_bounds-judge_late-end : goal.slice_bounds-judge_late-end
slice_bounds-judge_late-end c = let t = c.in_ok-counts.ensures in words_fit _ _ t.0 t.1

pub slice_bounds-judge_late-end-2 : goal.slice_bounds-judge_late-end-2
slice_bounds-judge_late-end-2 c = let t = c.in_ok-counts.ensures in sym (length-take-le _ _ (words_fit _ _ t.0 t.1))

pub judge_late-requires : goal.judge_late-requires
judge_late-requires c = let t = c.in_ok-counts.ensures in (words_are _ _ t.0 t.1, all_counts _ _ t.0, two_kept _ _ t.0)

pub returns-in_err-judge_late : goal.returns-in_err-judge_late
returns-in_err-judge_late c =
    let t = c.in_ok-counts.ensures in
    let v = c.in_err-judge_late.ensures in
    let p = err_from_is_err_and c.from_residual-in_err-judge_late.result c.from_residual-in_err-judge_late.ensures.1 in
    (rw (p.1, p.2) (late_broken _ _ t.0 v), late_table _ _ t.0 v t.1)

pub returns : goal.returns
returns c =
    let t = c.in_ok-counts.ensures in
    let v = c.in_ok-judge_late.ensures in
    (late_kept _ _ t.0 v, late_table _ _ t.0 v t.1)
