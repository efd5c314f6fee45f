-- THE SUMS OF ALL LAYERS of an accepted file: two for each layer, and those of a layer are just what the layer sums report of it; so the two
-- are equal. They are made layer by layer, two each. Assumes nothing.
use mathlib.Core.List.{List}
use mathlib.Core.Path.{◌≡◌, refl, sym, ◌∙◌, ap}
use Prim.Native.Nat.{ℕ, ◌+◌, ◌*◌, ◌-◌, ◌<◌}
use native.Mathlib.Nat.{add-zero}
use native.Mathlib.Omega.{arith}
use lib.IntN.{ℤ, pos}
use lib.ListN.{length, get_or, get_or-append}
use Rattle.verdict.specs.Rules.{Fine}
use Rattle.walk.specs.States.{counts_at}
use Rattle.walk.specs.Stages.{records_of}
use Rattle.walk.specs.Table.{table_of}
use Rattle.layers.specs.Naming.{layer_in}
use Rattle.layers.specs.Passing.{bases_in, layer_of}
use Rattle.judge.specs.declared.Sums.{Sums}
use Rattle.judge.specs.Rulebook.{pair_rule, all_verdict}
use Rattle.judge.specs.Outcomes.{sums_of, pair_of, pairs_to, all_sums_of, sums_after}
use Rattle.judge.proofs.Growing.{part_at}
use Rattle.judge.proofs.Adding.{pairs_many}
use Rattle.judge.proofs.NoGroundLost.{no_ground_lost, sums_equal}

-- two for each layer
pub pairs_layers : (file : List ℕ) → length (all_sums_of file) ≡ 2 * (counts_at file (records_of file)).layers
unfolding all_sums_of
pairs_layers file = pairs_many (table_of file) (bases_in file) file (counts_at file (records_of file)).layers

module _ (file : List ℕ) (room : ℕ) (ss : List ℤ) (h : all_verdict file room (length ss) ≡ Fine) (i : ℕ) (l : i < (counts_at file (records_of file)).layers) where
  -- sum j of the two
  stands : (j : ℕ) → j < 2 → get_or (sums_after file room ss) (2 * i + j) (pos 0) ≡ get_or (pair_of file (table_of file) (layer_of file i)) j (pos 0)
  unfolding sums_after all_sums_of pairs_to
  stands j two =
      let t = table_of file in
      let b = bases_in file in
      rw h
      (get_or-append (all_sums_of file) _ (pos 0) (2 * i + j) (rw (pairs_layers file) (omega arith))
      ∙ rw (← pairs_many t b file i) (part_at (pairs_to file t b) (λ i. pair_of file t (layer_in t b i)) (λ n. refl) (pos 0) _ i j l two))

  -- THE PAIR IN PLACES 2i AND 2i + 1 is just what `layer_sums` reports of layer i + 1
  pub pair_told : (get_or (sums_after file room ss) (2 * i) (pos 0) ≡ (sums_of file room (i + 1)).areas)
      × (get_or (sums_after file room ss) (2 * i + 1) (pos 0) ≡ (sums_of file room (i + 1)).outside)
  pair_told =
      let z : i + 1 - 1 ≡ i = omega arith in
      let r = rw z at (no_ground_lost file room (pair_rule (length ss)) h (i + 1) (omega arith) (omega arith)).1 in
      let areas = rw add-zero at (stands 0 (omega arith)) in
      (areas ∙ sym (ap (λ (s : Sums). s.areas) r), stands 1 (omega arith) ∙ sym (ap (λ (s : Sums). s.outside) r))

  -- and no ground is lost in it
  pub pair_equal : get_or (sums_after file room ss) (2 * i) (pos 0) ≡ get_or (sums_after file room ss) (2 * i + 1) (pos 0)
  pair_equal = pair_told.0 ∙ sums_equal file room (i + 1) ∙ sym pair_told.1
