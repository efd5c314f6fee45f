-- `report::check_text` meets its contract: too long, accepted or refused. Assumes nothing.
use mathlib.Core.Path.{◌∙◌}
use native.Mathlib.Omega.{arith}
use Rattle.report.proofs.Answers.{check_long, check_ok, check_refused}
use Rattle.report.proofs.check_text.Goals as goal

pub returns-then-input-gt-MOST : goal.returns-then-input-gt-MOST
returns-then-input-gt-MOST c = c.put_too_long.ensures ∙ check_long _ c.if-input-gt-MOST.true

pub returns-then-o-eq0 : goal.returns-then-o-eq0
returns-then-o-eq0 c =
    c.put_ok.ensures ∙ check_ok _ c.if-input-gt-MOST.false (omega arith) (omega arith) c.load-o.ensures.0 c.if-o-eq0.true

pub returns-else-o-eq0 : goal.returns-else-o-eq0
returns-else-o-eq0 c =
    c.put_refused.ensures ∙ check_refused _ c.if-input-gt-MOST.false (omega arith) (omega arith) c.load-o.ensures.0 c.if-o-eq0.false
