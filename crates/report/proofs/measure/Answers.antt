-- `report::measure` meets its contract: the text of what was read is the one of all that was given, and it is what was written. Assumes nothing.
use Rattle.std.proofs.Common.{ℕ, ◌∙◌}
use Rattle.std.proofs.lemmas.List.{length-replicate}
use Rattle.std.proofs.lemmas.Result.{on_ok_weaker}
use Rattle.report.proofs.Programs.{measure_settled, all_given}
use Rattle.report.proofs.measure.Goals as goal

pub returns : goal.returns
returns g c =
    let r = c.in_ok-n.ensures in
    let all = c.read_input.auto.input ∙ length-replicate {A = ℕ} 65491 0 in
    let text = c.text.ensures.text ∙ c.measure_text.ensures in
    on_ok_weaker _ (all_given measure_settled _ _ _ _ _ _ _ all r.within.0 r.bytes text) c.write_text.ensures
