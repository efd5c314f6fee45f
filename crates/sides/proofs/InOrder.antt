-- The rules of stage 6 stand in the order of RULES 6.1, all are of the seventh turn, and every one has a number above 9. Assumes nothing.
use mathlib.Core.List.{List}
use mathlib.Core.Path.{refl}
use Prim.Native.Nat.{ℕ, ◌+◌}
use Rattle.verdict.specs.Order.{Sorted}
use Rattle.verdict.proofs.Numbers.{ten_to18, Numbered}
use Rattle.verdict.proofs.Orders.{Of}
use Rattle.rules.specs.declared.Due.{Due}
use Rattle.rules.specs.declared.Due.TheVariants as due
use Rattle.walk.specs.States.{due_of}
use Rattle.layers.specs.declared.Bases.{Bases}
use Rattle.layers.specs.declared.Layer.{Layer}
use Rattle.layers.specs.declared.Standing.{Standing}
use Rattle.layers.proofs.Stages.{Orderly, stage_sorted, stage_of_lem, stage_numbered}
use Rattle.sides.specs.Sides.{list_checks, line_list_checks, sides_at, seventh, stage_six}

list_orderly : (d : Due) (file t : List ℕ) (l : Layer) (r : ℕ) → Orderly (line_list_checks d file t l r)
unfolding list_checks
list_orderly (due.Mesh last) file t l r = (refl, refl)
list_orderly (due.Layer last) file t l r = (refl, refl)
list_orderly (due.Node layer last) file t l r = (refl, refl)
list_orderly (due.Line layer last letters) file t l r = (refl, refl)
list_orderly (due.Coordinates left) file t l r = (refl, refl)
list_orderly (due.Area layer last) file t l r = (refl, refl)
list_orderly (due.Loop last count left) file t l r = (refl, refl)

at_orderly : (file t : List ℕ) (x : Standing) → Orderly (sides_at file t x)
at_orderly file t x = list_orderly (due_of x.state) file t x.layer (x.records + 1)

module _ (file t : List ℕ) (b : Bases) where
  pub six_sorted : Sorted (stage_six file t b)
  unfolding stage_six
  six_sorted = stage_sorted seventh (sides_at file t) file t b (at_orderly file t)

  pub six_of : Of seventh (stage_six file t b)
  unfolding stage_six
  six_of = stage_of_lem seventh (sides_at file t) file t b

  pub six_numbered : Numbered ten_to18 (stage_six file t b)
  unfolding stage_six
  six_numbered = stage_numbered seventh (sides_at file t) file t b (at_orderly file t)
