-- `walk::fine_ahead` meets its contract: the records found so far, and what is ahead of the one behind them, are what was ahead of the
-- first. Assumes nothing.
use mathlib.Core.Path.{◌≡◌}
use Prim.Native.Nat.{◌+◌, ◌-◌}
use Rattle.walk.specs.Quiet.{fine_ahead}
use Rattle.walk.proofs.fine_ahead.Given as goal

abbrev pub invariant-loop-i : goal.invariant-loop-i
invariant-loop-i l = l.i - l.k + fine_ahead l.file l.left l.i (l.n - l.i) ≡ fine_ahead l.file l.points l.k (l.n - l.k)
