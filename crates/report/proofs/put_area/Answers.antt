-- `report::put_area` meets its contract: one piece after the other. Assumes nothing.
use Rattle.std.proofs.Common.{append_assoc}
use mir.Syntax.{w64}
use mir.ValLaws.{to_z-of_z}
use Rattle.report.specs.Texts.{area_text}
use Rattle.report.proofs.put_area.Goals as goal

pub returns-clause-text : goal.returns-clause-text
unfolding area_text
returns-clause-text c =
    let m = rw (to_z-of_z w64 c.args.m c.ranges.m) at c.put_signed.ensures.text in
    simp (
      c.put-2.ensures,
      m,
      c.put.ensures,
      c.put_named-4.ensures.text,
      c.put_named-3.ensures.text,
      c.put_named-2.ensures.text,
      c.put_named.ensures.text,
      append_assoc,
    )
