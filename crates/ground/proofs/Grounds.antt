-- NO GROUND IS LOST (RULES 7.5, 13.3): a file that keeps stages 2, 4, 5 and 6 keeps rules 11, 13, 17 and 18 in each layer, so there
-- the areas measure as much as the outside sum. Assumes nothing.
use mathlib.Core.List.{List}
use mathlib.Core.Path.{◌≡◌}
use Prim.Native.Nat.{ℕ, zero, suc, ◌≤◌, ◌<◌}
use native.Mathlib.Omega.{arith}
use lib.IntN.{pos}
use Rattle.walk.specs.States.{counts_at}
use Rattle.walk.specs.Row.{letters_word}
use Rattle.walk.specs.Stages.{records_of}
use Rattle.walk.specs.Table.{table_of}
use Rattle.walk.proofs.Judging.{ended}
use Rattle.layers.specs.Naming.{row_word, area_of}
use Rattle.layers.specs.Passing.{layer_of}
use Rattle.layers.proofs.Sections.{lines, areas}
use Rattle.layers.proofs.Laid.{laid}
use Rattle.measures.specs.Sum.{sum, up_to}
use Rattle.entries.specs.Entries.{slots_of}
use Rattle.ground.specs.Layers.{areas_sum, outside_sum}
use Rattle.ground.specs.Standing.{LineKept, SlotKept, LayerKept}
use Rattle.ground.proofs.Standing.{layer_ground}
use Rattle.ground.proofs.Kept.{Passed, line_kept, slot_kept}
use Rattle.ground.proofs.Soundness.{bare_areas}

module _ (file : List ℕ) (p : Passed file) (i : ℕ) (l : i < (counts_at file (records_of file)).layers) where
  -- each line keeps stages 4 and 6
  pub lines_kept : (n : ℕ) → 0 < n → n ≤ (layer_of file i).lines → LineKept file (table_of file) (layer_of file i) n
  lines_kept zero o m = absurd (omega arith)
  lines_kept (suc n) o m =
      let q = laid lines file (ended file p.two) i n l m in
      line_kept file p i n q.0 q.1

  -- each area's slots keep stages 4 and 5
  pub slots_kept : (a : ℕ) → 0 < a → a ≤ (layer_of file i).areas → (e : ℕ) → e < slots_of file (area_of (table_of file) (layer_of file i) (pos a))
      → SlotKept file (table_of file) (layer_of file i) a (area_of (table_of file) (layer_of file i) (pos a)) e
  slots_kept zero o m e j = absurd (omega arith)
  slots_kept (suc a) o m e j =
      let q = laid areas file (ended file p.two) i a l m in
      let w = q.1.word in
      rw w (slot_kept file p i a q.0 q.1 e (rw w at j))

  -- so the layer keeps all that the law stands on
  pub layer_kept : LayerKept file (table_of file) (layer_of file i)
  layer_kept = record { lines = lines_kept; slots = slots_kept }

  -- RULES 7.5: the sum of all areas' measures is the outside sum
  pub ground_agrees : areas_sum file (table_of file) (layer_of file i) ≡ outside_sum file (table_of file) (layer_of file i)
  ground_agrees = layer_ground file (table_of file) (layer_of file i) layer_kept

  -- RULES 5.10, 7.5: an unstructured layer has no areas, so what they measure together is 0
  pub bare_ground : row_word (table_of file) i letters_word ≡ 1 → areas_sum file (table_of file) (layer_of file i) ≡ pos 0
  unfolding areas_sum sum up_to
  bare_ground e = rw (bare_areas file p.two i l e)
