-- `entries::keep_measures` meets its contract: each turn stores what the next line measures. Assumes nothing.
use mathlib.Core.Path.{◌≡◌}
use lib.Seq.{sets}
use Rattle.entries.specs.Keeping.{walked_to}
use Rattle.entries.proofs.keep_measures.Given as goal

abbrev pub invariant-loop-i : goal.invariant-loop-i
invariant-loop-i l = l.kept ≡ sets l.initial.kept 0 (walked_to l.file l.table l.l l.i)
