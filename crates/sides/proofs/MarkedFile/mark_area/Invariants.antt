-- `sides::MarkedFile::mark_area` meets its contract: each turn marks the entry of a slot, which the area lists. Assumes nothing.
use mathlib.Core.Path.{◌≡◌}
use Rattle.sides.specs.Marking.{Marks}
use Rattle.sides.proofs.MarkedFile.mark_area.Given as goal

abbrev pub invariant-loop-e : goal.invariant-loop-e
invariant-loop-e l = (l.self-inside.file.now ≡ l.file) × Marks l.file l.self-inside.marks
