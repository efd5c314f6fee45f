-- THE THEOREM OF DEMAND 3, no ground lost (RULES 13.3): in every layer of an accepted file the sum of all areas' measures is the sum walked
-- along the lines between an area and the outside, and these are the figures reported. In an unstructured layer both are 0. Both sums are
-- whole numbers that RULES 7 defines from the coordinates (`areas_sum` and `outside_sum` of `ground`). By 11, 13, 17 and 18 each side of each line
-- stands once in its area and nowhere else. Assumes nothing.
use mathlib.Core.List.{List, []}
use mathlib.Core.Path.{◌≡◌, refl, sym, ◌∙◌}
use Prim.Native.Nat.{ℕ, ◌-◌, ◌≤◌}
use native.Mathlib.Omega.{arith}
use lib.IntN.{pos}
use borrow.Author.Tests.{leb-true, le-leb}
use Rattle.std.specs.Prelude.{Err, Ok}
use Rattle.verdict.specs.Rules.{Verdict, Fine, Check, first_broken}
use Rattle.verdict.proofs.Orders.{and_both}
use Rattle.verdict.proofs.Parts.{goes_on, check_none, check_kept}
use Rattle.walk.specs.declared.Counts.{Counts}
use Rattle.walk.specs.States.{counts_at}
use Rattle.walk.specs.Row.{letters_word}
use Rattle.walk.specs.Stages.{records_of}
use Rattle.walk.specs.Table.{table_of}
use Rattle.layers.specs.Naming.{row_word}
use Rattle.layers.specs.Passing.{layer_of}
use Rattle.ground.specs.Layers.{areas_sum, outside_sum}
use Rattle.ground.proofs.Grounds.{ground_agrees, bare_ground}
use Rattle.judge.specs.Rulebook.{rules_of, eighth, layer_rule, call_verdict, sums_verdict}
use Rattle.judge.specs.Outcomes.{sums_with, sums_by, sums_of}
use Rattle.judge.proofs.Calling.{passed, rules_fine, last_fine}

module _ (file : List ℕ) (room i : ℕ) (first : 1 ≤ i) (last : i ≤ (counts_at file (records_of file)).layers) (kept : first_broken (rules_of file room) ≡ Fine) where
  layer_agrees : areas_sum file (table_of file) (layer_of file (i - 1)) ≡ outside_sum file (table_of file) (layer_of file (i - 1))
  layer_agrees = ground_agrees file (passed file room kept) (i - 1) (omega arith)

  reported : Fine ≡ sums_verdict file room i
  unfolding call_verdict
  reported =
      goes_on (rules_of file room) _ refl (sym kept)
      (check_none eighth 0 ∙ sym (check_kept eighth 0 0 22 _ [] (rw (le-leb 1 i first, le-leb i _ last))))

-- whichever call accepts the file, and whichever letters its layers have, those of the table's rows
pub no_ground_lost : (file : List ℕ) (room : ℕ) (last : Counts → Check) → call_verdict file room last ≡ Fine
    → (i : ℕ) → 1 ≤ i → i ≤ (counts_at file (records_of file)).layers
    → (areas_sum file (table_of file) (layer_of file (i - 1)) ≡ outside_sum file (table_of file) (layer_of file (i - 1)))
    × (sums_of file room i ≡ sums_with Fine (areas_sum file (table_of file) (layer_of file (i - 1))) (outside_sum file (table_of file) (layer_of file (i - 1))))
    × (row_word (table_of file) (i - 1) letters_word ≡ 1 → sums_of file room i ≡ sums_with Fine (pos 0) (pos 0))
unfolding sums_of
no_ground_lost file room last h i p q =
    let kept = rules_fine file room last h in
    let same = layer_agrees file room i p q kept in
    let l = layer_of file (i - 1) in
    let told : sums_of file room i ≡ sums_with Fine (areas_sum file (table_of file) l) (outside_sum file (table_of file) l) = rw (← reported file room i p q kept) in
    (same, told, λ e. told ∙ rw (← same, bare_ground file (passed file room kept) (i - 1) (omega arith) e))

-- so the two figures that are reported are equal, whatever the file, the room and the layer number
pub sums_equal : (file : List ℕ) (room i : ℕ) → (sums_of file room i).areas ≡ (sums_of file room i).outside
unfolding sums_of
sums_equal file room i = by (sums_verdict file room i) refl
  where
    by : (v : Verdict) → sums_verdict file room i ≡ v → (sums_by v file i).areas ≡ (sums_by v file i).outside
    by (Ok _) h =
        let c = and_both _ _ (last_fine file room (layer_rule i) h) in
        layer_agrees file room i (leb-true 1 i c.0) (leb-true i _ c.1) (rules_fine file room (layer_rule i) h)
    by (Err r) h = refl
