use mathlib.Core.Path.{◌≡◌, refl}
use Prim.Native.Nat.{◌+◌}
use native.Mathlib.Numerals.{add-one}
use native.Mathlib.Omega.{arith}
use mir.Syntax.{w64}
use mir.Val.{to_z}
use Rattle.measures.specs.Sum.{sum}
use Rattle.measures.specs.Measures.{area_measure}
use Rattle.entries.specs.Entries.{loops_at, loops_to, records_to}
use Rattle.entries.specs.Keeping.{kept_measure, kept_loop}
use Rattle.judge.specs.Measuring.{kept_area}
use Rattle.judge.proofs.Adding.{Added, loop_added}
use Rattle.judge.proofs.area_measure.Goals as goal
use Rattle.judge.proofs.area_measure.Goals.{After-loop_measure-sum}

-- the loop's measure goes to the sum
next : (c : After-loop_measure-sum)
    → Added (to_z w64 c.loop.sum-bits) c.loop_measure-sum.result
    (area_measure (kept_measure c.args.l c.args.kept.now)
    (loops_to c.args.file.now
    c.args.a (c.loop.counter + 1)))
unfolding kept_loop
next c =
    let l = c.loop in
    loop_added _ _ _ l.counter c.requires.1 (omega (arith, c.loop-test.true, c.loops_at-end.ensures.0))
    l.invariant.0 l.invariant.2 c.loop_measure-sum.type_inv c.loop_measure-sum.ensures

pub loop-init : goal.loop-init
unfolding records_to area_measure loops_to sum
loop-init c = (omega arith, omega arith, refl)

pub overflow_add-sum : goal.overflow_add-sum
overflow_add-sum c = (next (goal.at.overflow_add-sum c).After-loop_measure-sum).fits

pub loop-preserved : goal.loop-preserved
unfolding records_to
loop-preserved c =
    let l = c.loop in
    let r = c.loop_records-f.ensures in
    let a = c.args in
    let e : records_to a.file.now a.a (l.counter + 1) ≡ records_to a.file.now a.a l.counter + c.loop_records-f.result = rw (add-one, ← l.invariant.0, r.0) in
    (omega (arith, e), omega (arith, e, r.1), (next (goal.at.loop-preserved c).After-loop_measure-sum).is)

pub returns : goal.returns
unfolding kept_area
returns c =
    let l = c.loop in
    let a = c.args in
    let e : l.counter ≡ loops_at a.file.now a.a = omega (arith, c.loop-test.false, c.loops_at-end.ensures.0) in
    rw (← e) l.invariant.2
