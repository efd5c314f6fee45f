use mathlib.Core.Path.{◌≡◌, sym, ◌∙◌, ap}
use Prim.Native.Nat.{◌+◌}
use native.Mathlib.Omega.{arith}
use mir.Syntax.{w64}
use mir.Val.{to_z}
use Rattle.measures.specs.Sum.{sum_to}
use Rattle.measures.proofs.SumLaws.{sum_to_none}
use Rattle.ground.specs.Layers.{area_of_layer, areas_sum}
use Rattle.judge.proofs.Adding.{Added, sum_added, area_measurable, area_told}
use Rattle.judge.proofs.areas_sum.Goals as goal
use Rattle.judge.proofs.areas_sum.Goals.{After-area_measure-sum}

-- the area's measure goes to the sum
next : (c : After-area_measure-sum)
    → Added (to_z w64 c.loop-a.sum-bits) c.area_measure-sum.result
    (sum_to (c.loop-a.a + 1)
    (area_of_layer c.args.file.now
    c.args.table.now c.args.l))
next c =
    let h = c.loop-a-test.true in
    let l = c.loop-a in
    sum_added _ _ l.a c.requires.1.areas h l.invariant c.area_measure-sum.type_inv
    (area_told _ _ _ h c.area_word.ensures.0 c.requires.0 c.area_measure-sum.ensures)

pub loop-a-init : goal.loop-a-init
loop-a-init c = sym (sum_to_none _)

pub area_measure-sum-requires : goal.area_measure-sum-requires
area_measure-sum-requires c =
    (c.area_word.ensures.1, area_measurable _ _ _ c.loop-a-test.true c.area_word.ensures.0 c.requires.0 c.requires.1)

pub overflow_add-sum : goal.overflow_add-sum
overflow_add-sum c = (next (goal.at.overflow_add-sum c).After-area_measure-sum).fits

pub loop-a-preserved : goal.loop-a-preserved
loop-a-preserved c = (next (goal.at.loop-a-preserved c).After-area_measure-sum).is

pub returns : goal.returns
unfolding areas_sum
returns c =
    let a = c.args in
    let e : c.loop-a.a ≡ a.l.areas = omega (arith, c.loop-a-test.false) in
    c.loop-a.invariant ∙ ap (λ n. sum_to n (area_of_layer a.file.now a.table.now a.l)) e
