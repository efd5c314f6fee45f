-- `sides::MarkedFile::mark_layer` meets its contract: each turn marks an area, and the file stays. Assumes nothing.
use mathlib.Core.Path.{◌≡◌}
use Rattle.sides.proofs.MarkedFile.mark_layer.Given as goal

abbrev pub invariant-loop-i : goal.invariant-loop-i
invariant-loop-i l = l.self ≡ l.initial.self
