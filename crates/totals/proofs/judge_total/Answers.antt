-- `totals::judge_total` meets its contract: one check, broken or kept. Assumes nothing.
use Rattle.totals.proofs.Summing.{total_kept, total_broken}
use Rattle.totals.proofs.judge_total.Goals as goal

pub returns-then-size_at-counted : goal.returns-then-size_at-counted
returns-then-size_at-counted c = total_kept _ _ _ _ c.size_at.ensures.0 c.if-size_at-counted.true

pub returns : goal.returns
returns c = total_broken _ _ _ _ c.size_at.ensures.0 c.if-size_at-counted.false
