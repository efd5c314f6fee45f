-- The slots of a loop record and the way round of its loop: what the verdicts on them come to for the record. Assumes nothing.
use mathlib.Core.Bool.{true, cond, ◌||◌}
use mathlib.Core.List.{List}
use mathlib.Core.Path.{◌≡◌, refl, sym, ◌∙◌, ap}
use Prim.Native.Nat.{ℕ, ◌+◌}
use native.Mathlib.Omega.{arith}
use lib.IntN.{ℤ}
use Rattle.records.specs.Columns.{loop_entries, slot_column}
use Rattle.std.specs.Prelude.{Err}
use Rattle.verdict.specs.declared.Refusal.{Refusal}
use Rattle.verdict.specs.Rules.{Verdict, Fine, Broken, first_broken, block, spread}
use Rattle.verdict.proofs.Parts.{stands, goes_on, block_append}
use Rattle.permitted.specs.Permitted.{is, is_zero}
use Rattle.layers.specs.declared.Layer.{Layer}
use Rattle.links.specs.Links.{loop_entry, slot_of}
use Rattle.links.specs.Scanning.{clean}
use Rattle.entries.specs.Loops.{loop_measure_in}
use Rattle.entries.specs.Keeping.{kept_loop, Kept}
use Rattle.entries.proofs.Keeping.{loop_kept}
use Rattle.loops.specs.Loops.{repeats_area, joins, area_on_hand, slot_from, loop_slot, wind_checks, first_record, area_record, loop_checks, sixth}

-- ---- a slot's checks

-- the first that is broken, in the order of the code that judges them
pub slot_judged : (file t : List ℕ) (l : Layer) (a area f r i : ℕ) → first_broken (block sixth r (loop_slot file t l a area f r i))
    ≡ cond (clean (slot_of file (a + 1)) (slot_from (a + 1) r i))
    (cond (is_zero (loop_entry file r i) || joins file t l f (slot_from f r i) (loop_entry file r i))
    (cond (is_zero (loop_entry file r i) || is area (area_on_hand file t l (loop_entry file r i))) Fine (Broken 17 r (slot_column loop_entries i)))
    (Broken 15 r (slot_column loop_entries i)))
    (Broken 13 r (slot_column loop_entries i))
unfolding loop_slot first_broken block clean repeats_area
slot_judged _ _ _ _ _ _ _ _ = refl

-- a slot that is fine is no entry or repeats none
pub slot_clean : (file t : List ℕ) (l : Layer) (a area f r i : ℕ) → first_broken (block sixth r (loop_slot file t l a area f r i)) ≡ Fine
    → clean (slot_of file (a + 1)) (slot_from (a + 1) r i) ≡ true
slot_clean file t l a area f r i h = grind (arith, slot_judged)

-- ---- the way round

-- by what was kept of its lines, where that is their measures
pub wind_kept : (file t : List ℕ) (l : Layer) (ms : List ℤ) (r left : ℕ) {v : Verdict}
    → Kept file t l ms → v ≡ first_broken (block sixth r (wind_checks file (kept_loop file l ms r) r left))
    → v ≡ first_broken (block sixth r (wind_checks file (loop_measure_in file t l r) r left))
wind_kept file t l ms r left k e = rw (← loop_kept file t l ms k r) e

-- ---- a loop record

module _ (file t : List ℕ) (l : Layer) (area count left r : ℕ) {v : Verdict}
    (e : v ≡ first_broken (block sixth r (wind_checks file (loop_measure_in file t l r) r left))) where
  -- its loop turns the wrong way round, and that is returned
  pub loop_stops : {e : Refusal} → v ≡ Err e → v ≡ first_broken (block sixth r (loop_checks file t l area count left r))
  unfolding loop_checks
  loop_stops h =
      stands (block sixth r (wind_checks file (loop_measure_in file t l r) r left)) _ h e
      ∙ ap first_broken (sym (block_append sixth r (wind_checks file (loop_measure_in file t l r) r left) _))

  -- it does not, and the verdict w of the slots is returned
  pub loop_passes : {a f : ℕ} {w : Verdict} → v ≡ Fine → a ≡ area_record t l area → f ≡ first_record r count left
      → w ≡ first_broken (block sixth r (spread 12 (loop_slot file t l a area f r))) → w ≡ first_broken (block sixth r (loop_checks file t l area count left r))
  unfolding loop_checks
  loop_passes h p q k =
      goes_on (block sixth r (wind_checks file (loop_measure_in file t l r) r left)) _ h e (rw (← p, ← q) k)
      ∙ ap first_broken (sym (block_append sixth r (wind_checks file (loop_measure_in file t l r) r left) _))
