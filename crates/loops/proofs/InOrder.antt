-- The rules of stage 5 stand in the order of RULES 6.1, all are of the sixth turn, and every one has a number above 9. Assumes nothing.
use mathlib.Core.Bool.{Bool, true, false, cond}
use mathlib.Core.List.{List, [], ◌∷◌, ◌++◌}
use mathlib.Core.Path.{refl}
use Prim.Native.Nat.{ℕ, ◌+◌}
use lib.Dec.{ltb}
use Rattle.records.specs.Columns.{value_at, loop_serial}
use Rattle.verdict.specs.Rules.{check, spread}
use Rattle.verdict.specs.Order.{Sorted}
use Rattle.verdict.proofs.Numbers.{ten_to18, Numbered}
use Rattle.verdict.proofs.Orders.{Of}
use Rattle.rules.specs.declared.Due.{Due}
use Rattle.rules.specs.declared.Due.TheVariants as due
use Rattle.walk.specs.States.{due_of}
use Rattle.layers.specs.declared.Bases.{Bases}
use Rattle.layers.specs.declared.Layer.{Layer}
use Rattle.layers.specs.declared.Standing.{Standing}
use Rattle.layers.proofs.Stages.{Orderly, stage_sorted, stage_of_lem, stage_numbered}
use Rattle.entries.specs.Loops.{loop_measure_in}
use Rattle.loops.specs.Loops.{loop_slot, winds, wind_checks, area_record, first_record, loop_checks, area_checks, areas_at, sixth, stage_five}

-- ---- a record's checks

-- b says that the loop began earlier, and x whether it turns the right way round
by_orderly : (file t : List ℕ) (l : Layer) (a area f r : ℕ) (b x : Bool) → Orderly (cond b [] (check 1 16 x ∷ []) ++ spread 12 (loop_slot file t l a area f r))
unfolding loop_slot spread
by_orderly file t l a area f r true x = (refl, refl)
by_orderly file t l a area f r false x = (refl, refl)

loop_orderly : (file t : List ℕ) (l : Layer) (area count left r : ℕ) → Orderly (loop_checks file t l area count left r)
unfolding loop_checks wind_checks
loop_orderly file t l area count left r =
    by_orderly file t l (area_record t l area) area (first_record r count left) r (ltb 0 left) (winds (value_at file r loop_serial) (loop_measure_in file t l r))

area_orderly : (d : Due) (file t : List ℕ) (l : Layer) (area r : ℕ) → Orderly (area_checks d file t l area r)
area_orderly (due.Mesh last) file t l area r = (refl, refl)
area_orderly (due.Layer last) file t l area r = (refl, refl)
area_orderly (due.Node layer last) file t l area r = (refl, refl)
area_orderly (due.Line layer last letters) file t l area r = (refl, refl)
area_orderly (due.Coordinates left) file t l area r = (refl, refl)
area_orderly (due.Area layer last) file t l area r = (refl, refl)
area_orderly (due.Loop last count left) file t l area r = loop_orderly file t l area count left r

-- ---- the stage

at_orderly : (file t : List ℕ) (x : Standing) → Orderly (areas_at file t x)
at_orderly file t x = area_orderly (due_of x.state) file t x.layer x.state.layer.area (x.records + 1)

module _ (file t : List ℕ) (b : Bases) where
  pub five_sorted : Sorted (stage_five file t b)
  unfolding stage_five
  five_sorted = stage_sorted sixth (areas_at file t) file t b (at_orderly file t)

  pub five_of : Of sixth (stage_five file t b)
  unfolding stage_five
  five_of = stage_of_lem sixth (areas_at file t) file t b

  pub five_numbered : Numbered ten_to18 (stage_five file t b)
  unfolding stage_five
  five_numbered = stage_numbered sixth (areas_at file t) file t b (at_orderly file t)
