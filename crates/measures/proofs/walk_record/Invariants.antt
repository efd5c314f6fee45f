-- `measures::walk_record` meets its contract. The loop's invariant: the walk has gone along the first `i` points. Assumes nothing.
use mathlib.Core.Path.{◌≡◌}
use Rattle.measures.specs.Points.{pair_by}
use Rattle.measures.specs.Sound.{added_up}
use Rattle.measures.specs.Walks.{walk_along}
use Rattle.measures.proofs.walk_record.Given as goal

abbrev pub invariant-loop-i : goal.invariant-loop-i
invariant-loop-i l = l.at ≡ walk_along l.initial.at (pair_by added_up l.s) l.i
