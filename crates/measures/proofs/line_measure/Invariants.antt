-- `measures::line_measure` meets its contract. The loop's invariant: the walk has gone along the points that are not left, seven a record.
-- Assumes nothing.
use mathlib.Core.Path.{◌≡◌}
use Prim.Native.Nat.{◌-◌, ◌*◌, ◌≤◌, ◌<◌}
use Rattle.measures.specs.Points.{point_by}
use Rattle.measures.specs.Sound.{added_up}
use Rattle.measures.specs.Walks.{walk_along, begin}
use Rattle.measures.proofs.line_measure.Given as goal

abbrev pub invariant-loop-left : goal.invariant-loop-left
invariant-loop-left l =
    (l.left ≤ l.initial.left)
    × (l.line ≤ l.k)
    × (l.k - l.line ≤ l.initial.left - l.left)
    × (l.w ≡ walk_along begin (point_by added_up l.file l.line) (l.initial.left - l.left))
    × (0 < l.left → l.initial.left - l.left ≡ 7 * (l.k - l.line))

abbrev pub decreases-loop-left : goal.decreases-loop-left
decreases-loop-left l = l.left
