-- THE PROGRAMS LEND ENOUGH: a file of up to 65,490 bytes has at most 885 records, so it needs at most 4,425 words, and if it keeps stage 2 it
-- has at most 442 areas. So the answer is that with as much room as the file needs, and neither 9 nor 19. Assumes nothing.
use mathlib.Core.List.{List}
use mathlib.Core.Path.{◌≡◌}
use Prim.Native.Nat.{ℕ, ◌*◌, ◌≤◌}
use native.Mathlib.Nat.{le_refl}
use native.Mathlib.Omega.{arith}
use lib.ListN.{length}
use Rattle.walk.specs.Stages.{need_of}
use Rattle.walk.proofs.Judging.{walked_fine}
use Rattle.walk.proofs.Room.{need_most, areas_half}
use Rattle.walk.specs.Row.{row_length}
use Rattle.judge.specs.Outcomes.{outcome_of}
use Rattle.judge.proofs.Room.{Enough, need_enough, same_outcome, room_enough, places_enough}
use Rattle.report.specs.Texts.{answer_to}
use Rattle.report.proofs.Areas.{few_records}

-- the answer shows neither 9 nor 19, whatever the file
pub answer_roomy : (file : List ℕ) → ((answer_to file).number ≡ 9 → ⊥) × ((answer_to file).number ≡ 19 → ⊥)
answer_roomy file = (room_enough file (need_of file) (need_of file) (le_refl _), places_enough file (need_of file) (need_of file) (le_refl _))

module _ (file : List ℕ) (h : length file ≤ 65490) {room places : ℕ} (a : row_length * 885 ≤ room) (b : 442 ≤ places) where
  enough : Enough file room places
  enough =
      let n = few_records file h in
      record { words = omega (arith, need_most file); areas = λ kept. omega (arith, areas_half file (walked_fine file kept).1) }

  -- so much room is as good as what the file needs
  pub lent_answer : outcome_of file room places ≡ answer_to file
  lent_answer = same_outcome file enough (need_enough file (need_of file) (need_of file) (le_refl _) (le_refl _))

  -- and so gets neither 9 nor 19
  pub lent_roomy : ((outcome_of file room places).number ≡ 9 → ⊥) × ((outcome_of file room places).number ≡ 19 → ⊥)
  lent_roomy = rw lent_answer (answer_roomy file)
