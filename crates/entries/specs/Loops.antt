-- The measures of loops and areas of a file (RULES 7.2, 7.3); t is the file's table and l the layer. Assumes nothing.
--   measure_of file t l n     the measure of line n of the layer; 0 where n names no line
--   slot_measure m v          what a slot adds to its loop's measure, where m gives each line's
--   loop_measure_in file t l f  the measure of the loop whose first record is f
--   area_measure_in file t l a  the measure of the area whose A is record a
use Rattle.std.specs.Prelude.{cond, List, ℕ, ℤ, pos, neg_ℤ}
use Rattle.permitted.specs.Permitted.{natural, size}
use Rattle.layers.specs.declared.Layer.{Layer}
use Rattle.layers.specs.Naming.{line_of}
use Rattle.measures.specs.Measures.{loop_measure, area_measure}
use Rattle.measures.specs.Points.{measure_in}
use Rattle.entries.specs.Entries.{loops_at, loop_at, loops_to}

-- RULES 7.1: line n's measure
unfoldable pub measure_of : List ℕ → List ℕ → Layer → ℕ → ℤ
measure_of file t l n = measure_in file (line_of t l (pos n))

-- RULES 7.2: what a slot adds: +n line n's measure; -n takes it away; 0, which names no line, adds 0
unfoldable pub slot_measure : (ℕ → ℤ) → ℤ → ℤ
slot_measure m v = cond (natural v) (m (size v)) (neg_ℤ (m (size v)))

-- RULES 7.2: a loop's measure is the sum over its entries: +n adds line n's, -n takes it away
unfoldable pub loop_measure_in : List ℕ → List ℕ → Layer → ℕ → ℤ
loop_measure_in file t l f = loop_measure (measure_of file t l) (loop_at file f)

-- RULES 7.3: an area's measure is the sum of its loops'
unfoldable pub area_measure_in : List ℕ → List ℕ → Layer → ℕ → ℤ
area_measure_in file t l a = area_measure (measure_of file t l) (loops_to file a (loops_at file a))
