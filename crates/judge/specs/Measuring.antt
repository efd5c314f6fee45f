-- What the code needs to know of a layer before it adds up. It serves the code and is no part of a promise. Assumes nothing.
use Rattle.std.specs.Prelude.{List, ℕ, ◌≤◌, ◌<◌, ℤ, pos}
use Rattle.measures.specs.Measures.{area_measure, outside}
use Rattle.measures.specs.Sum.{sum_to}
use Rattle.measures.specs.Walks.{Small}
use Rattle.layers.specs.declared.Bases.{Bases}
use Rattle.layers.specs.declared.Layer.{Layer}
use Rattle.layers.specs.Naming.{layer_in, area_of}
use Rattle.entries.specs.Entries.{loops_at, loops_to}
use Rattle.entries.specs.Loops.{measure_of}
use Rattle.entries.specs.Keeping.{kept_measure, SoundLayer}
use Rattle.ground.specs.Layers.{area_of_layer, left_area_of, right_area_of}

-- a sum that the machine can hold
abbrev pub Fits : ℤ → Type 0
Fits z = Small 4000000000000000000 z

-- the first loops of the area whose A is record a, added up, however many; m gives each line's measure
pub record Measurable (file : List ℕ) (m : ℕ → ℤ) (a : ℕ) : Type 0 where
  pub fits : (j : ℕ) → j ≤ loops_at file a → Fits (area_measure m (loops_to file a j))

-- the area's measure, by the list ms of its layer's line measures
unfoldable pub kept_area : List ℕ → Layer → List ℤ → ℕ → ℤ
kept_area file l ms a = area_measure (kept_measure l ms) (loops_to file a (loops_at file a))

-- what line n adds to the outside sum
unfoldable pub outside_at : List ℕ → List ℕ → Layer → ℕ → ℤ
outside_at file t l n = outside (left_area_of file t l n) (right_area_of file t l n) (measure_of file t l n)

-- the layer's areas and lines, added up one by one; the lines are well formed
pub record Summable (file t : List ℕ) (l : Layer) : Type 0 where
  pub sound : SoundLayer file t l
  pub each : (a : ℕ) → 0 < a → a ≤ l.areas → Measurable file (measure_of file t l) (area_of t l (pos a))
  pub areas : (j : ℕ) → j ≤ l.areas → Fits (sum_to j (area_of_layer file t l))
  pub outside : (j : ℕ) → j ≤ l.lines → Fits (sum_to j (outside_at file t l))

-- and so it is in the first n layers
pub record SummableTo (file t : List ℕ) (b : Bases) (n : ℕ) : Type 0 where
  pub few : n ≤ 6399936
  pub each : (i : ℕ) → i < n → Summable file t (layer_in t b i)
