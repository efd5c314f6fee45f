use mathlib.Core.Path.{refl}
use native.Mathlib.Omega.{arith}
use Rattle.layers.specs.Naming.{words_before}
use Rattle.entries.proofs.Keeping.{kept_all}
use Rattle.judge.proofs.Adding.{none_filled, next_summable, room, at_more, layer_put}
use Rattle.judge.proofs.fill_measures.Goals as goal

pub loop-i-init : goal.loop-i-init
unfolding words_before
loop-i-init c = (refl, none_filled _ _ _ _)

pub fill_layer-requires : goal.fill_layer-requires
fill_layer-requires c =
    let l = c.loop-i in
    let h = c.loop-i-test.true in
    let e = c.layer_in-l.ensures in
    let u = next_summable _ _ _ c.requires.0 h e in (
      room _ _ _ _ _ _ c.requires l.invariant.0 l.invariant.1 h e,
      kept_all _ _ _ c.keep.ensures u.sound,
      u,
    )

pub overflow_add-at : goal.overflow_add-at
overflow_add-at c =
    let i = c.layer_in-l.ensures in
    let l = c.loop-i in
    let h = c.loop-i-test.true in
    omega (arith, room _ _ _ _ _ _ c.requires l.invariant.0 l.invariant.1 h i, l.auto.measures, c.well_formed)

pub loop-i-preserved : goal.loop-i-preserved
loop-i-preserved c =
    let l = c.loop-i in
    let h = c.loop-i-test.true in
    let e = c.layer_in-l.ensures in (
      at_more _ _ _ _ _ _ c.requires l.invariant.0 l.invariant.1 h e,
      layer_put _ _ _ _ _ _ c.requires l.invariant.0 l.invariant.1 h e c.fill_layer.ensures,
    )
