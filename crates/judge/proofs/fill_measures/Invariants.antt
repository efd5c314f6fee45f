-- `judge::fill_measures` meets its contract: each turn fills in the next layer's measures behind the others. Assumes nothing.
use mathlib.Core.Path.{◌≡◌}
use Rattle.walk.specs.Table.{filled}
use Rattle.layers.specs.Naming.{words_before}
use Rattle.ground.specs.Layers.{measures_to}
use Rattle.judge.proofs.fill_measures.Given as goal

abbrev pub invariant-loop-i : goal.invariant-loop-i
invariant-loop-i l =
    (l.at ≡ words_before l.table 3 l.i) × (l.measures ≡ filled (measures_to l.file l.table l.b l.i) l.initial.measures)
