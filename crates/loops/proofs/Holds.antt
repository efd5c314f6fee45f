-- What stage 5 says of a loop record whose checks all hold, by name, slot by slot. Assumes nothing.
use mathlib.Core.Bool.{true, ◌||◌, not}
use mathlib.Core.List.{List}
use mathlib.Core.Path.{◌≡◌}
use Prim.Native.Nat.{ℕ, ◌+◌, ◌<◌}
use Rattle.verdict.proofs.Holding.{Holding, both_hold, slot_holds}
use Rattle.permitted.specs.Permitted.{is, is_zero}
use Rattle.layers.specs.declared.Layer.{Layer}
use Rattle.links.specs.Links.{loop_entry, slot_of}
use Rattle.entries.specs.Loops.{loop_measure_in}
use Rattle.loops.specs.Loops.{repeats_area, area_on_hand, slot_from, loop_slot, wind_checks, first_record, area_record, loop_checks}

module _ (file t : List ℕ) (l : Layer) (area count left r : ℕ) (h : Holding (loop_checks file t l area count left r)) (i : ℕ) (m : i < 12) where
  slot_kept : Holding (loop_slot file t l (area_record t l area) area (first_record r count left) r i)
  unfolding loop_checks
  slot_kept = slot_holds _ 12 (both_hold (wind_checks file (loop_measure_in file t l r) r left) _ h).1 i m

  -- 13 of slot i
  pub entry_once :
      (is_zero (slot_of file (area_record t l area + 1) (slot_from (area_record t l area + 1) r i))
      || not (repeats_area file (area_record t l area) (slot_from (area_record t l area + 1) r i)))
      ≡ true
  unfolding loop_slot
  entry_once = slot_kept.0

  -- 17
  pub entry_own : (is_zero (loop_entry file r i) || is area (area_on_hand file t l (loop_entry file r i))) ≡ true
  unfolding loop_slot
  entry_own = slot_kept.1.1.0
