-- `judge::judge_measures` meets its contract: a refusal stands, of the stages or for too few places, and else the measures are filled in.
-- Assumes nothing.
use mathlib.Core.Path.{refl, sym}
use lib.ListN.{length}
use lib.Seq.{length-take-le}
use borrow.Author.Tests.{leb-true}
use Rattle.std.proofs.lemmas.Result.{err_from_is_err_and}
use Rattle.judge.specs.Rulebook.{measure_rule}
use Rattle.judge.specs.Outcomes.{measures_after}
use Rattle.judge.proofs.Loading.{counts_few}
use Rattle.judge.proofs.Calling.{judged_counts, judged_fit, judged_words, summable_to, areas_fit, measures_are}
use Rattle.judge.proofs.Calling.{stages_are, stages_told, asked_are, asked_told, last_kept, kept_told, lent_refused, lent_kept, table_told}
use Rattle.judge.proofs.judge_measures.Goals as goal

pub returns-in_err-counts : goal.returns-in_err-counts
unfolding measures_after
returns-in_err-counts c =
    let j = c.in_err-counts.ensures in
    let r = measure_rule (length c.args.measures.now) in
    let p = err_from_is_err_and c.from_residual.result c.from_residual.ensures.1 in
    record { told = rw (p.1, p.2) (stages_told _ _ r j.0); table = table_told _ _ r refl j.1; measures = lent_refused _ _ r (stages_are _ _ r j.0) refl _ _ }

pub returns-in_err-asked : goal.returns-in_err-asked
unfolding measures_after
returns-in_err-asked c =
    let j = c.in_ok-counts.ensures in
    let a = c.in_err-asked.ensures in
    let r = measure_rule (length c.args.measures.now) in
    let p = err_from_is_err_and c.from_residual-in_err-asked.result c.from_residual-in_err-asked.ensures.1 in
    record { told = rw (p.1, p.2) (asked_told _ _ r j.0 a refl); table = table_told _ _ r refl j.1; measures = lent_refused _ _ r (asked_are _ _ r j.0 a) refl _ _ }

pub slice_bounds-fill_measures-end : goal.slice_bounds-fill_measures-end
slice_bounds-fill_measures-end c = let j = c.in_ok-counts.ensures in judged_fit _ _ j.0 _ refl j.1

pub slice_bounds-fill_measures-end-2 : goal.slice_bounds-fill_measures-end-2
slice_bounds-fill_measures-end-2 c = let j = c.in_ok-counts.ensures in sym (length-take-le _ _ (judged_fit _ _ j.0 _ refl j.1))

pub bases_of-requires : goal.bases_of-requires
bases_of-requires c = counts_few _ (judged_counts _ _ c.in_ok-counts.ensures.0)

pub fill_measures-requires : goal.fill_measures-requires
fill_measures-requires c =
    let j = c.in_ok-counts.ensures in
    let w = judged_words _ _ j.0 _ refl j.1 in
    let l = leb-true _ _ (last_kept _ _ (measure_rule (length c.args.measures.now)) j.0 c.in_ok-asked.ensures) in
    (summable_to _ _ j.0 w c.bases_of.ensures, rw (areas_fit _ _ j.0 w c.bases_of.ensures) l)

pub returns : goal.returns
unfolding measures_after
returns c =
    let j = c.in_ok-counts.ensures in
    let a = c.in_ok-asked.ensures in
    let r = measure_rule (length c.args.measures.now) in
    let f = measures_are _ _ j.0 (judged_words _ _ j.0 _ refl j.1) c.bases_of.ensures in
    record { told = kept_told _ _ r j.0 a; table = table_told _ _ r refl j.1; measures = lent_kept _ _ r (asked_are _ _ r j.0 a) refl _ _ (rw f at c.fill_measures.ensures) }
