-- `asks::is_loop_due` meets its contract: the last loop's serial, or the one behind it. Assumes nothing.
use Prim.Native.Nat.{suc}
use lib.Dec.{eqb}
use mir.Facts.{to_z-of_z}
use borrow.Author.Tests.{lt-ltb, le-ltb}
use Rattle.permitted.specs.Permitted.{natural, size, same, is_loop_serial}
use Rattle.permitted.proofs.Matches.{eqb_before, eqb_zero, either_side}
use Rattle.permitted.proofs.Signs.{sized}
use Rattle.asks.proofs.is_loop_due.Goals as goal

pub returns-then-left-gt0 : goal.returns-then-left-gt0
returns-then-left-gt0 c = rw (lt-ltb _ _ c.if-left-gt0.true, c.is_loop_serial.ensures, to_z-of_z c.ranges.v)

pub returns-then-n-eq0 : goal.returns-then-n-eq0
unfolding is_loop_serial
returns-then-n-eq0 c =
    rw (le-ltb _ _ c.if-left-gt0.false, sized c.ranges.v c.size-n.ensures, eqb_zero _ c.args.last c.if-n-eq0.true)

pub returns : goal.returns
unfolding is_loop_serial
returns c =
    rw (
      le-ltb _ _ c.if-left-gt0.false,
      eqb_before _ _ c.if-n-eq0.false,
      c.same.ensures,
      c.natural.ensures,
      c.size-n.ensures,
      to_z-of_z c.ranges.v,
    )
    (either_side (size c.args.v) (suc c.args.last) (λ k. same (natural c.args.v) (eqb k 1)))
