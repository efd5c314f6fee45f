-- `judge::areas_sum` meets its contract: the loop adds up the areas' measures one by one, and every partial sum fits. Assumes nothing.
use mathlib.Core.Path.{◌≡◌}
use Rattle.measures.specs.Sum.{sum_to}
use Rattle.ground.specs.Layers.{area_of_layer}
use Rattle.judge.proofs.areas_sum.Given as goal

abbrev pub invariant-loop-a : goal.invariant-loop-a
invariant-loop-a l = (l.sum ≡ sum_to l.a (area_of_layer l.file l.table l.l))
