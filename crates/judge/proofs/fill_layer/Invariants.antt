-- `judge::fill_layer` meets its contract: each turn stores the next area's measure. Assumes nothing.
use mathlib.Core.Path.{◌≡◌}
use Prim.Native.Nat.{suc}
use lib.Seq.{sets}
use Rattle.measures.specs.Points.{first_of}
use Rattle.ground.specs.Layers.{area_of_layer}
use Rattle.judge.proofs.fill_layer.Given as goal

abbrev pub invariant-loop-a : goal.invariant-loop-a
invariant-loop-a l = (l.measures ≡ sets l.initial.measures l.at (first_of (λ i. area_of_layer l.file l.table l.l (suc i)) l.a))
