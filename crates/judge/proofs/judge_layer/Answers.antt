-- `judge::judge_layer` meets its contract: a refusal stands, of the stages or for a layer that is not there, and else its sums are told.
-- Assumes nothing.
use mathlib.Core.Path.{◌≡◌, refl, sym, ◌∙◌, ap}
use mathlib.Core.Bool.{◌&&◌}
use mathlib.Core.List.{[], ◌∷◌}
use Prim.Native.Nat.{◌≤◌}
use lib.Dec.{leb}
use lib.Seq.{length-take-le}
use borrow.Author.Tests.{leb-true, le-leb, lt-leb}
use Rattle.std.proofs.lemmas.Result.{err_from_is_err_and}
use Rattle.verdict.specs.Rules.{Verdict, Fine, check, block, first_broken}
use Rattle.verdict.proofs.Orders.{and_both}
use Rattle.judge.specs.Rulebook.{eighth, layer_rule}
use Rattle.judge.specs.Outcomes.{layer_told}
use Rattle.judge.proofs.Loading.{counts_few}
use Rattle.judge.proofs.Calling.{judged_counts, judged_fit, judged_words, layer_summable, layer_sums_are}
use Rattle.judge.proofs.Calling.{stages_told, asked_told, last_kept, kept_told, table_told}
use Rattle.judge.proofs.judge_layer.Goals as goal
use Rattle.judge.proofs.judge_layer.Goals.{After-asked, then-i-ge1, else-i-ge1}

-- what is asked: whether the layer is there
asks : (c : After-asked) → c.if-i-ge1.asked ≡ (leb 1 c.args.layer && leb c.args.layer c.in_ok-counts.counts.layers)
asks c =
    elim c.if-i-ge1.branch [
      | then-i-ge1 w ↦ rw (w.asked-is, le-leb 1 c.args.layer w.if-i-ge1.true)
      | else-i-ge1 w ↦ rw (w.asked-is, lt-leb 1 c.args.layer w.if-i-ge1.false)
    ]

-- the answer v to it
answered : (c : After-asked) {v : Verdict} → v ≡ first_broken (block eighth 0 (check 0 22 c.if-i-ge1.asked ∷ []))
    → v ≡ first_broken (block eighth 0 (layer_rule c.args.layer c.in_ok-counts.counts ∷ []))
answered c e = e ∙ ap (λ b. first_broken (block eighth 0 (check 0 22 b ∷ []))) (asks c)

-- the layer is there
there : (c : After-asked) → Fine ≡ first_broken (block eighth 0 (check 0 22 c.if-i-ge1.asked ∷ []))
    → (1 ≤ c.args.layer) × (c.args.layer ≤ c.in_ok-counts.counts.layers)
there c e =
    let s = and_both _ _ (last_kept _ _ (layer_rule c.args.layer) c.in_ok-counts.ensures.0 (answered c e)) in
    (leb-true _ _ s.0, leb-true _ _ s.1)

pub returns-in_err-counts : goal.returns-in_err-counts
returns-in_err-counts c =
    let j = c.in_err-counts.ensures in
    let r = layer_rule c.args.layer in
    let p = err_from_is_err_and c.from_residual.result c.from_residual.ensures.1 in
    record {
      told = rw (p.1, p.2) (ap (λ t. layer_told t c.args.file.now c.args.layer) (stages_told _ _ r j.0));
      table = table_told _ _ r refl j.1;
    }

pub returns-in_err-asked : goal.returns-in_err-asked
returns-in_err-asked c =
    let j = c.in_ok-counts.ensures in
    let r = layer_rule c.args.layer in
    let p = err_from_is_err_and c.from_residual-in_err-asked.result c.from_residual-in_err-asked.ensures.1 in
    record {
      told = rw (p.1, p.2) (ap (λ t. layer_told t c.args.file.now c.args.layer) (asked_told _ _ r j.0 (answered (goal.at.returns-in_err-asked c).After-asked c.in_err-asked.ensures) refl));
      table = table_told _ _ r refl j.1;
    }

pub slice_bounds-words-end : goal.slice_bounds-words-end
slice_bounds-words-end c = let j = c.in_ok-counts.ensures in judged_fit _ _ j.0 _ refl j.1

pub slice_bounds-words-end-2 : goal.slice_bounds-words-end-2
slice_bounds-words-end-2 c = let j = c.in_ok-counts.ensures in sym (length-take-le _ _ (judged_fit _ _ j.0 _ refl j.1))

pub bases_of-requires : goal.bases_of-requires
bases_of-requires c = counts_few _ (judged_counts _ _ c.in_ok-counts.ensures.0)

pub overflow_sub-i : goal.overflow_sub-i
overflow_sub-i c = (there (goal.at.overflow_sub-i c).After-asked c.in_ok-asked.ensures).0

pub sums_in-requires : goal.sums_in-requires
sums_in-requires c =
    let j = c.in_ok-counts.ensures in
    let t = there (goal.at.sums_in-requires c).After-asked c.in_ok-asked.ensures in
    layer_summable _ _ j.0 (judged_words _ _ j.0 _ refl j.1) c.bases_of.ensures _ c.layer_in-l.ensures t.0 t.1

pub returns : goal.returns
returns c =
    let j = c.in_ok-counts.ensures in
    let r = layer_rule c.args.layer in
    record {
      told =
          layer_sums_are _ _ j.0 (judged_words _ _ j.0 _ refl j.1) c.bases_of.ensures _ c.layer_in-l.ensures c.sums_in.ensures
          ∙ ap (λ t. layer_told t c.args.file.now c.args.layer) (kept_told _ _ r j.0 (answered (goal.at.returns c).After-asked c.in_ok-asked.ensures));
      table = table_told _ _ r refl j.1;
    }
