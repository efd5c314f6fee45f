-- `rules::judge_record` meets its contract. The loop's invariant, `Going`: the fields that are left give the answer of the whole.
-- Assumes nothing.
use Rattle.rules.proofs.Going.{Going}
use Rattle.rules.proofs.judge_record.Given as goal

abbrev pub invariant-loop-field : goal.invariant-loop-field
invariant-loop-field l = Going l.due l.s l.row l.numbers l.n l.field-index
