-- `judge::all_sums` meets its contract: the answer of `judge_sums` by refusal numbers. Assumes nothing.
use mathlib.Core.Path.{◌∙◌}
use lib.ListN.{length}
use Rattle.judge.specs.Rulebook.{pair_rule}
use Rattle.judge.proofs.Calling.{told_countable, outcome_found}
use Rattle.judge.proofs.all_sums.Goals as goal

pub outcome_of-requires : goal.outcome_of-requires
outcome_of-requires c = told_countable _ _ (pair_rule (length c.args.sums.now)) c.judge_sums.ensures.told

pub returns : goal.returns
returns c =
    let j = c.judge_sums.ensures in
    (c.outcome_of.ensures ∙ outcome_found _ _ (pair_rule (length c.args.sums.now)) j.told, j.table, j.sums)
