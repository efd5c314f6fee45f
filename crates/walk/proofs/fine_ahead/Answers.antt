use native.Mathlib.Omega.{arith}
use Prim.Native.Nat.{◌-◌}
use mathlib.Core.Path.{◌≡◌}
use Rattle.walk.specs.Quiet.{fine_ahead}
use Rattle.walk.proofs.Passing.{ahead_next, ahead_stops, none_ahead}
use Rattle.walk.proofs.fine_ahead.Goals as goal
use Rattle.walk.proofs.fine_ahead.Goals.{then-left-eq0-via-then-left-eq0, then-left-eq0-via-else-left-eq0+then-not-fine_coordinates}

pub returns-then-left-eq0 : goal.returns-then-left-eq0
returns-then-left-eq0 c =
    let h = c.loop-i.invariant in
    elim c.then-left-eq0.branch [
      | then-left-eq0-via-then-left-eq0 w ↦
          let z = none_ahead c.args.file.now c.loop-i.i (c.args.n - c.loop-i.i) w.if-left-eq0.true in
          omega (arith, z, h)
      | then-left-eq0-via-else-left-eq0+then-not-fine_coordinates w ↦
          let z = ahead_stops _ _ _ _ c.loop-i-test.true (omega arith) w.record_view.ensures (w.fine_coordinates.ensures _) w.if-not-fine_coordinates.true in
          omega (arith, z, h)
    ]

pub loop-i-preserved : goal.loop-i-preserved
loop-i-preserved c =
    let z = ahead_next _ _ _ _ c.loop-i-test.true (omega arith) c.record_view.ensures (c.fine_coordinates.ensures _) c.if-not-fine_coordinates.false in
    rw c.saturating_sub-left.ensures (omega (arith, z, c.loop-i.invariant, c.loop-i.auto.i))

pub returns : goal.returns
unfolding fine_ahead
returns c =
    let z : c.args.n - c.loop-i.i ≡ 0 = omega arith in
    let h = rw z at c.loop-i.invariant in
    omega (arith, h)
