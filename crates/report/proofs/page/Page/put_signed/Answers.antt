-- `report::page::Page::put_signed` meets its contract: a sign where the number is below 0, and the digits of its magnitude. Assumes nothing.
use Rattle.std.proofs.Common.{append_assoc}
use mir.Syntax.{w64}
use mir.ValLaws.{to_z-of_z}
use Rattle.report.proofs.Signs.{signed_below, signed_above}
use Rattle.report.proofs.page.Page.put_signed.Goals as goal
use Rattle.report.proofs.page.Page.put_signed.Goals.{then-v-lt0, else-v-lt0}

pub returns-clause-text : goal.returns-clause-text
returns-clause-text c =
    let e = to_z-of_z w64 c.args.v c.ranges.v in
    let p = rw (c.unsigned_abs.ensures.value, e) at c.put_number.ensures.text in
    elim c.if-v-lt0.branch [
      | then-v-lt0 w ↦ rw (p, w.self-is, w.put.ensures, append_assoc, signed_below _ (rw e at w.if-v-lt0.true))
      | else-v-lt0 w ↦ rw (p, w.self-is, signed_above _ (rw e at w.if-v-lt0.false))
    ]
