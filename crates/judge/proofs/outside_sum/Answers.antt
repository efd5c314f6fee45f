use mathlib.Core.Path.{◌≡◌, sym, ◌∙◌, ap}
use Prim.Native.Nat.{◌+◌}
use native.Mathlib.Numerals.{add-one}
use native.Mathlib.Omega.{arith}
use mir.Syntax.{w64}
use mir.Val.{to_z}
use Rattle.measures.specs.Sum.{sum_to}
use Rattle.measures.proofs.SumLaws.{sum_to_none}
use Rattle.ground.specs.Layers.{outside_sum}
use Rattle.judge.specs.Measuring.{outside_at}
use Rattle.judge.proofs.Adding.{Added, sum_added}
use Rattle.judge.proofs.outside_sum.Goals as goal
use Rattle.judge.proofs.outside_sum.Goals.{After-outside_at-sum}

-- what the line adds goes to the sum
next : (c : After-outside_at-sum)
    → Added (to_z w64 c.loop-i.sum-bits) c.outside_at-sum.result
    (sum_to (c.loop-i.i + 1)
    (outside_at c.args.file.now
    c.args.table.now c.args.l))
next c =
    let l = c.loop-i in
    sum_added _ _ l.i c.requires.1.outside c.loop-i-test.true l.invariant
    c.outside_at-sum.type_inv (c.outside_at-sum.ensures ∙ ap (outside_at _ _ _) (add-one l.i))

pub loop-i-init : goal.loop-i-init
loop-i-init c = sym (sum_to_none _)

pub overflow_add-sum : goal.overflow_add-sum
overflow_add-sum c = (next (goal.at.overflow_add-sum c).After-outside_at-sum).fits

pub loop-i-preserved : goal.loop-i-preserved
loop-i-preserved c = (next (goal.at.loop-i-preserved c).After-outside_at-sum).is

pub returns : goal.returns
unfolding outside_sum outside_at
returns c =
    let a = c.args in
    let e : c.loop-i.i ≡ a.l.lines = omega (arith, c.loop-i-test.false) in
    c.loop-i.invariant ∙ ap (λ n. sum_to n (outside_at a.file.now a.table.now a.l)) e
