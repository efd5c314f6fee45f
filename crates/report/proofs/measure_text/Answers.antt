-- `report::measure_text` meets its contract: too long, accepted or refused. Assumes nothing.
use mathlib.Core.Path.{refl, ◌∙◌}
use native.Mathlib.Omega.{arith}
use Rattle.report.proofs.Areas.{few_records}
use Rattle.report.proofs.Answers.{measure_long, measure_ok, measure_refused}
use Rattle.report.proofs.measure_text.Goals as goal

pub returns-then-input-gt-MOST : goal.returns-then-input-gt-MOST
returns-then-input-gt-MOST c = c.put_too_long.ensures ∙ measure_long _ c.if-input-gt-MOST.true

pub put_areas-requires-clause-few : goal.put_areas-requires-clause-few
put_areas-requires-clause-few c = few_records _ c.if-input-gt-MOST.false

pub returns-then-o-eq0 : goal.returns-then-o-eq0
returns-then-o-eq0 c =
    let l = c.load-o.ensures in
    c.put_areas.ensures ∙ measure_ok _ c.if-input-gt-MOST.false (omega arith) (omega arith) l.0 c.if-o-eq0.true _ refl l.2

pub returns-else-o-eq0 : goal.returns-else-o-eq0
returns-else-o-eq0 c =
    c.put_refused.ensures ∙ measure_refused _ c.if-input-gt-MOST.false (omega arith) (omega arith) c.load-o.ensures.0 c.if-o-eq0.false
