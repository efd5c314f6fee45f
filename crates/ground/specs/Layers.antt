-- What a layer and a file measure (RULES 7.3, 7.4); t is the file's table, b where the lines and the areas begin in it, and l a
-- layer. Assumes nothing.
--   area_of_layer file t l a  the measure of the layer's area a
--   areas_sum file t l       the sum of its areas' measures
--   left_area_of, right_area_of  a line's left and right area
--   outside_sum file t l     the outside sum: walked along the lines between an area and the outside
--   measures_to file t b n   the measures of all areas of the first n layers, in file order
use Rattle.std.specs.Prelude.{List, [], ◌++◌, ℕ, zero, suc, ℤ, pos}
use Rattle.records.specs.Columns.{left_area, right_area, value_at}
use Rattle.permitted.specs.Permitted.{size}
use Rattle.measures.specs.Sum.{sum_to}
use Rattle.measures.specs.Measures.{outside}
use Rattle.measures.specs.Points.{first_of}
use Rattle.layers.specs.declared.Bases.{Bases}
use Rattle.layers.specs.declared.Layer.{Layer}
use Rattle.layers.specs.Naming.{layer_in, line_of, area_of}
use Rattle.entries.specs.Loops.{measure_of, area_measure_in}

-- RULES 7.3: the measure of the layer's area a
unfoldable pub area_of_layer : List ℕ → List ℕ → Layer → ℕ → ℤ
area_of_layer file t l a = area_measure_in file t l (area_of t l (pos a))

-- RULES 7.5: the sum of all areas' measures
unfoldable pub areas_sum : List ℕ → List ℕ → Layer → ℤ
areas_sum file t l = sum_to l.areas (area_of_layer file t l)

-- RULES 4.4: line n's left area, its right area
unfoldable pub left_area_of : List ℕ → List ℕ → Layer → ℕ → ℕ
left_area_of file t l n = size (value_at file (line_of t l (pos n)) left_area)

unfoldable pub right_area_of : List ℕ → List ℕ → Layer → ℕ → ℕ
right_area_of file t l n = size (value_at file (line_of t l (pos n)) right_area)

-- RULES 7.4: the outside sum adds the measure of each line whose left area is 0 and whose right area is not, and takes away that of each
-- line whose right area is 0 and whose left area is not
unfoldable pub outside_sum : List ℕ → List ℕ → Layer → ℤ
outside_sum file t l = sum_to l.lines (λ n. outside (left_area_of file t l n) (right_area_of file t l n) (measure_of file t l n))

-- RULES 8.4: a measure for each area, in file order
unfoldable pub measures_to : List ℕ → List ℕ → Bases → ℕ → List ℤ
measures_to file t b zero = []
measures_to file t b (suc n) = measures_to file t b n ++ first_of (λ a. area_of_layer file t (layer_in t b n) (suc a)) (layer_in t b n).areas
