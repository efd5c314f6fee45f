-- `quick::fine_coordinates` meets its contract: the loop goes on as `Glancing` says, and where it leaves the record is broken. Assumes nothing.
use Rattle.quick.proofs.Glancing.{Glancing}
use Rattle.quick.proofs.fine_coordinates.Given as goal

abbrev pub invariant-loop-i : goal.invariant-loop-i
invariant-loop-i l = Glancing l.left l.s l.i
