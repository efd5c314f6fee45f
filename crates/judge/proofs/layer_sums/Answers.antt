-- `judge::layer_sums` meets its contract: the answer of `judge_layer` by refusal numbers. Assumes nothing.
use mathlib.Core.Path.{◌∙◌}
use Rattle.judge.proofs.Calling.{sums_are}
use Rattle.judge.proofs.layer_sums.Goals as goal

pub returns : goal.returns
returns c =
    let j = c.judge_layer.ensures in
    (c.sums_of.ensures ∙ sums_are _ _ _ j.told, j.table)
