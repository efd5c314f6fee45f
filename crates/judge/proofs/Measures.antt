-- THE MEASURES OF AN ACCEPTED FILE: as many as it has areas, and the measure behind n others is that of the A behind n others. They are made
-- layer by layer, a layer has as many as its row says, and the A records of a layer stand in its order. Assumes nothing.
use mathlib.Core.List.{List}
use mathlib.Core.Path.{◌≡◌, refl, sym, ◌∙◌, ap}
use Prim.Native.Nat.{ℕ, suc, ◌+◌, ◌-◌, ◌≤◌, ◌<◌}
use native.Mathlib.Numerals.{add-one}
use native.Mathlib.Omega.{arith}
use lib.IntN.{ℤ, pos}
use lib.ListN.{length, get_or}
use Rattle.verdict.specs.Rules.{Fine}
use Rattle.rules.specs.declared.Due.TheVariants.{Area}
use Rattle.walk.specs.Row.{areas_word}
use Rattle.walk.specs.States.{due_of, state_at, counts_at}
use Rattle.walk.specs.Stages.{records_of}
use Rattle.walk.specs.Table.{table_of}
use Rattle.walk.proofs.Judging.{ended}
use Rattle.measures.specs.Points.{first_of}
use Rattle.measures.proofs.FirstLaws.{first_many, first_at}
use Rattle.layers.specs.declared.Bases.{Bases}
use Rattle.layers.specs.Naming.{words_before, layer_in}
use Rattle.layers.specs.Passing.{layer_at, bases_in, layer_of}
use Rattle.layers.proofs.Sections.{areas, named}
use Rattle.layers.proofs.Laid.{all_came, nth, place_of, word_of_lem}
use Rattle.entries.specs.Loops.{area_measure_in}
use Rattle.ground.specs.Layers.{area_of_layer, measures_to}
use Rattle.judge.specs.Rulebook.{measure_rule, verdict_of}
use Rattle.judge.specs.Outcomes.{measures_of}
use Rattle.judge.proofs.Adding.{measures_many}
use Rattle.judge.proofs.Calling.{passed, rules_fine}
use Rattle.judge.proofs.Growing.{part_at}
use Rattle.judge.proofs.Loading.{counts_few}

-- ---- layer by layer

-- area m of layer i
layer_measure : (file t : List ℕ) (b : Bases) (n i m : ℕ) → n ≤ 6399936 → i < n → m < (layer_in t b i).areas
    → get_or (measures_to file t b n) (words_before t areas_word i + m) (pos 0) ≡ area_of_layer file t (layer_in t b i) (suc m)
unfolding measures_to
layer_measure file t b n i m f l h =
    let ofLayer : ℕ → List ℤ = λ i. first_of (λ a. area_of_layer file t (layer_in t b i) (suc a)) (layer_in t b i).areas in
    rw (← measures_many t b file i (omega arith))
    (part_at (measures_to file t b) ofLayer (λ n. refl) (pos 0) n i m l (rw first_many h)
    ∙ first_at (λ a. area_of_layer file t (layer_in t b i) (suc a)) (pos 0) (layer_in t b i).areas m h)

-- ---- the file

-- an accepted file has as many measures as areas
pub measures_areas : (file : List ℕ) (room places : ℕ) → verdict_of file room places ≡ Fine → length (measures_of file) ≡ (counts_at file (records_of file)).areas
unfolding measures_of
measures_areas file room places h =
    let p = passed file room (rules_fine file room (measure_rule places) h) in
    measures_many (table_of file) (bases_in file) file (counts_at file (records_of file)).layers (counts_few file refl).0
    ∙ all_came areas file (ended file p.two)

-- the A that stands behind k records: behind as many areas as came in them stands its measure
pub measure_place : (file : List ℕ) (k : ℕ) → k < records_of file → {layer last : ℕ} → due_of (state_at file k) ≡ Area layer last
    → get_or (measures_of file) (counts_at file k).areas (pos 0) ≡ area_measure_in file (table_of file) (layer_at file (table_of file) (bases_in file) k) (k + 1)
unfolding measures_of area_of_layer layer_at
measure_place file k l {last = m} e =
    let t = table_of file in
    let i = (counts_at file k).layers - 1 in
    let x = place_of areas file k l _ 0 _ e in
    rw x.place
    (layer_measure file t (bases_in file) (counts_at file (records_of file)).layers i m (counts_few file refl).0 x.layer x.inside
    ∙ ap (area_measure_in file t (layer_of file i)) (named areas t (layer_of file i) m x.inside ∙ word_of_lem areas file k l _ 0 _ e ∙ sym (add-one k)))

-- the measure in place n is that of the A before which n others stand: the record behind the first k
pub record MeasureAt (file : List ℕ) (n k : ℕ) : Type 0 where
  pub within : k < records_of file
  pub due : due_of (state_at file k) ≡ Area (state_at file k).layer.code (state_at file k).layer.area
  pub before : (counts_at file k).areas ≡ n
  pub measure : get_or (measures_of file) n (pos 0) ≡ area_measure_in file (table_of file) (layer_at file (table_of file) (bases_in file) k) (k + 1)

pub measure_nth : (file : List ℕ) (n : ℕ) → n < (counts_at file (records_of file)).areas → (k : ℕ) × MeasureAt file n k
measure_nth file n l =
    let q = nth areas file n l in
    let k = q.0 in
    let a = q.1 in
    (k, record { within = a.within; due = a.due; before = a.before; measure = rw a.before at (measure_place file k a.within a.due) })
