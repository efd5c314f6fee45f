-- The points of a line in a file (RULES 4.4: how many; RULES 4.5: X and Y of seven points a record). Assumes nothing.
--   coordinate_in s c   the coordinate that starts at column c of the record s: the number that stands there
--   point_at file r i   point i, counted from 0, of the line whose L is record r
--   measure_in file r   its measure
-- `pair_by`, `point_by`, `points_by` and `measure_by` are the same for any way to read a coordinate.
use Rattle.std.specs.Prelude.{List, [], ◌∷◌, ◌++◌, ℕ, zero, suc, ◌+◌, ◌/◌, ◌%◌, ℤ, pos, negsuc}
use Rattle.fields.specs.Number.{number_at}
use Rattle.fields.specs.Answer.{value_of}
use Rattle.records.specs.View.{record_of}
use Rattle.records.specs.Columns.{line_points, value_at, points_x, points_y, slot_column}
use Rattle.measures.specs.Measures.{Point, line_measure}

-- RULES 7.1: the number that stands there; 0 where none does
unfoldable pub coordinate_in : List ℕ → ℕ → ℤ
coordinate_in s c = value_of (number_at s c 5)

-- RULES 5.9: the count alone says where the points end, and within it (0,0) is a point
abbrev pub count_of : ℤ → ℕ
count_of (pos n) = n
count_of (negsuc n) = 0

-- RULES 4.4: an L's points
unfoldable pub point_count : List ℕ → ℕ → ℕ
point_count file r = count_of (value_at file r line_points)

-- f 0, f 1, .. f (n - 1)
unfoldable pub first_of : {A : Type 0} → (ℕ → A) → ℕ → List A
first_of f zero = []
first_of f (suc n) = first_of f n ++ (f n ∷ [])

-- ---- where `read` reads the coordinate that starts at a column of a record

-- RULES 4.5: pair i of a coordinate record, counted from 0
unfoldable pub pair_by : (List ℕ → ℕ → ℤ) → List ℕ → ℕ → Point
pair_by read s i = record { x = read s (slot_column points_x i); y = read s (slot_column points_y i) }

-- RULES 2.6: point i of the line at record r, counted from 0; a coordinate record has seven
unfoldable pub point_by : (List ℕ → ℕ → ℤ) → List ℕ → ℕ → ℕ → Point
point_by read file r i = pair_by read (record_of file (r + 1 + i / 7)) (i % 7)

-- its points, as many as it counts
unfoldable pub points_by : (List ℕ → ℕ → ℤ) → List ℕ → ℕ → List Point
points_by read file r = first_of (point_by read file r) (point_count file r)

-- RULES 7.1: its measure
unfoldable pub measure_by : (List ℕ → ℕ → ℤ) → List ℕ → ℕ → ℤ
measure_by read file r = line_measure (points_by read file r)

-- ---- RULES 7.1: by the numbers that stand in the records

abbrev pub point_at : List ℕ → ℕ → ℕ → Point
point_at = point_by coordinate_in

abbrev pub measure_in : List ℕ → ℕ → ℤ
measure_in = measure_by coordinate_in
