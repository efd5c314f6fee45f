use mathlib.Core.Path.{refl}
use Rattle.measures.specs.Points.{first_of}
use Rattle.judge.proofs.Adding.{area_measurable, area_stored}
use Rattle.judge.proofs.fill_layer.Goals as goal

pub loop-a-init : goal.loop-a-init
unfolding first_of
loop-a-init c = refl

pub area_measure-requires : goal.area_measure-requires
area_measure-requires c =
    (c.area_word.ensures.1, area_measurable _ _ _ c.loop-a-test.true c.area_word.ensures.0 c.requires.1 c.requires.2)

pub loop-a-preserved : goal.loop-a-preserved
loop-a-preserved c =
    let p = c.requires.1 in
    area_stored _ _ _ c.loop-a-test.true c.area_word.ensures.0 p _ _ c.loop-a.invariant c.area_measure.type_inv c.area_measure.ensures
