-- `judge::load` meets its contract: the answer of `judge_measures` by refusal numbers. Assumes nothing.
use mathlib.Core.Path.{◌∙◌}
use lib.ListN.{length}
use Rattle.judge.specs.Rulebook.{measure_rule}
use Rattle.judge.proofs.Calling.{told_countable, outcome_found}
use Rattle.judge.proofs.load.Goals as goal

pub outcome_of-requires : goal.outcome_of-requires
outcome_of-requires c = told_countable _ _ (measure_rule (length c.args.measures.now)) c.judge_measures.ensures.told

pub returns : goal.returns
returns c =
    let j = c.judge_measures.ensures in
    (c.outcome_of.ensures ∙ outcome_found _ _ (measure_rule (length c.args.measures.now)) j.told, j.table, j.measures)
