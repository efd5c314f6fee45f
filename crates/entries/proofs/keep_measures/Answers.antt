use mathlib.Core.Path.{refl, ◌∙◌, ap}
use mir.Facts.{to_z-of_z}
use mir.Syntax.{w64}
use Rattle.measures.specs.Points.{first_of, measure_by}
use Rattle.measures.specs.Sound.{added_up}
use Rattle.entries.specs.Keeping.{walked_to}
use Rattle.entries.proofs.Keeping.{walked_stored}
use Rattle.entries.proofs.keep_measures.Goals as goal

pub loop-i-init : goal.loop-i-init
unfolding walked_to first_of
loop-i-init c = refl

pub loop-i-preserved : goal.loop-i-preserved
loop-i-preserved c =
    let l = c.loop-i in
    let a = c.args in
    let m = c.line_measure in
    let z = to_z-of_z {w = w64} (record { sfits = m.type_inv }) ∙ m.ensures ∙ ap (measure_by added_up a.file.now) c.line_word.ensures in
    walked_stored a.file.now a.table.now a.l a.kept.now l.i l.invariant z
