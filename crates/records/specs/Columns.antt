-- The number fields that are read alone, by name (RULES 4.1 to 4.7). Whoever reads a field of a record without the rest of it names it
-- here and nowhere else; `column_laid` and `slot_laid` (proofs/Named) say of every name that it is a field of its layout. Assumes nothing.
--   Column, Row       the names: of a field, and of a row of slots
--   column_kind, span_of  the kind of record that a field is of; its first column and its width
--   column_of c       its first column, which is its place in a refusal (RULES 1.4)
--   value_at file k c  the number in the field c of record k of a file; 0 where there is none
--   code_on file k s  the value of the code in these columns of record k (RULES 3.6, 5.7); 0 where there is none
--   row_kind, row_span_of  the same of a row: its kind, and where its slots stand
--   slot_column r i   the first column of slot i of the row r, counted from 0
--   slot_at file k r i the number in slot i of the row r of record k; 0 where there is none
use Rattle.std.specs.Prelude.{cond, List, ℕ, ◌+◌, ◌*◌, ltb, ℤ}
use Rattle.records.specs.declared.Kind.{Kind}
use Rattle.records.specs.declared.Kind.TheVariants.{Mesh, Layer, Node, Line, Coordinates, Area, Loop}
use Rattle.codes.specs.Code.{code_value}
use Rattle.records.specs.Reading.{code_in}
use Rattle.records.specs.View.{record_of, number_in}

-- ---- fields

pub data Column : Type 0 where
  mesh_code : Column
  mesh_layers : Column
  mesh_nodes : Column
  mesh_lines : Column
  mesh_areas : Column
  mesh_records : Column
  layer_code : Column
  layer_nodes : Column
  layer_lines : Column
  layer_areas : Column
  layer_records : Column
  node_serial : Column
  node_x : Column
  node_y : Column
  node_frame : Column
  line_serial : Column
  start_node : Column
  start_link : Column
  end_node : Column
  end_link : Column
  left_code : Column
  left_area : Column
  right_code : Column
  right_area : Column
  line_points : Column
  area_code : Column
  area_serial : Column
  area_loops : Column
  area_lines : Column
  loop_serial : Column
  loop_count : Column

abbrev pub column_kind : Column → Kind
column_kind mesh_code = Mesh
column_kind mesh_layers = Mesh
column_kind mesh_nodes = Mesh
column_kind mesh_lines = Mesh
column_kind mesh_areas = Mesh
column_kind mesh_records = Mesh
column_kind layer_code = Layer
column_kind layer_nodes = Layer
column_kind layer_lines = Layer
column_kind layer_areas = Layer
column_kind layer_records = Layer
column_kind node_serial = Node
column_kind node_x = Node
column_kind node_y = Node
column_kind node_frame = Node
column_kind line_serial = Line
column_kind start_node = Line
column_kind start_link = Line
column_kind end_node = Line
column_kind end_link = Line
column_kind left_code = Line
column_kind left_area = Line
column_kind right_code = Line
column_kind right_area = Line
column_kind line_points = Line
column_kind area_code = Area
column_kind area_serial = Area
column_kind area_loops = Area
column_kind area_lines = Area
column_kind loop_serial = Loop
column_kind loop_count = Loop

-- where a field stands: its first column, and how many columns it has
pub record Span : Type 0 where
  pub start : ℕ
  pub width : ℕ

abbrev pub span_of : Column → Span
-- RULES 4.1: M
span_of mesh_code = record { start = 3; width = 6 }
span_of mesh_layers = record { start = 29; width = 3 }
span_of mesh_nodes = record { start = 32; width = 5 }
span_of mesh_lines = record { start = 37; width = 5 }
span_of mesh_areas = record { start = 42; width = 5 }
span_of mesh_records = record { start = 52; width = 5 }
-- RULES 4.2: H
span_of layer_code = record { start = 3; width = 2 }
span_of layer_nodes = record { start = 5; width = 5 }
span_of layer_lines = record { start = 10; width = 5 }
span_of layer_areas = record { start = 15; width = 5 }
span_of layer_records = record { start = 25; width = 5 }
-- RULES 4.3: N
span_of node_serial = record { start = 7; width = 5 }
span_of node_x = record { start = 12; width = 5 }
span_of node_y = record { start = 17; width = 5 }
span_of node_frame = record { start = 22; width = 2 }
-- RULES 4.4: L
span_of line_serial = record { start = 7; width = 5 }
span_of start_node = record { start = 18; width = 5 }
span_of start_link = record { start = 23; width = 1 }
span_of end_node = record { start = 24; width = 5 }
span_of end_link = record { start = 29; width = 1 }
span_of left_code = record { start = 30; width = 5 }
span_of left_area = record { start = 35; width = 5 }
span_of right_code = record { start = 40; width = 5 }
span_of right_area = record { start = 45; width = 5 }
span_of line_points = record { start = 50; width = 6 }
-- RULES 4.6: A
span_of area_code = record { start = 5; width = 5 }
span_of area_serial = record { start = 10; width = 5 }
span_of area_loops = record { start = 25; width = 4 }
span_of area_lines = record { start = 29; width = 4 }
-- RULES 4.7: loop
span_of loop_serial = record { start = 1; width = 5 }
span_of loop_count = record { start = 6; width = 4 }

-- RULES 1.4: a field's place is the column where it starts
abbrev pub column_of : Column → ℕ
column_of c = (span_of c).start

-- the number that stands there in record k
abbrev pub number_on : List ℕ → ℕ → Span → ℤ
number_on file k s = number_in file k s.start s.width

abbrev pub value_at : List ℕ → ℕ → Column → ℤ
value_at file k c = number_on file k (span_of c)

-- RULES 5.7: a code is its value, whatever its mark
abbrev pub code_on : List ℕ → ℕ → Span → ℤ
code_on file k s = code_value (code_in (record_of file k) s.start s.width)

-- the columns from c on, w of them
abbrev pub span_from : ℕ → ℕ → Span
span_from c w = record { start = c; width = w }

-- ---- rows of slots

pub data Row : Type 0 where
  node_entries : Row
  points_x : Row
  points_y : Row
  loop_entries : Row

abbrev pub row_kind : Row → Kind
row_kind node_entries = Node
row_kind points_x = Coordinates
row_kind points_y = Coordinates
row_kind loop_entries = Loop

-- where a row stands: its first slot's column, how many columns one slot starts behind the other, and how many there are
pub record RowSpan : Type 0 where
  pub start : ℕ
  pub step : ℕ
  pub count : ℕ

abbrev pub row_span_of : Row → RowSpan
-- RULES 4.3: nine entries of an N; RULES 4.5: X and Y of seven points; RULES 4.7: twelve entries of a loop record
row_span_of node_entries = record { start = 26; step = 5; count = 9 }
row_span_of points_x = record { start = 1; step = 10; count = 7 }
row_span_of points_y = record { start = 6; step = 10; count = 7 }
row_span_of loop_entries = record { start = 10; step = 5; count = 12 }

-- RULES 4.3, 4.5, 4.7: slots have width 5
abbrev pub slot_width : ℕ
slot_width = 5

abbrev pub slot_column : Row → ℕ → ℕ
slot_column r i = (row_span_of r).start + (row_span_of r).step * i

-- n slots, the first at column c, each `step` columns behind the one before it: where slot i starts; 0, which is no column, past the last
unfoldable pub slot_start : ℕ → ℕ → ℕ → ℕ → ℕ
slot_start c step n i = cond (ltb i n) (c + step * i) 0

-- the number in it, of record k
abbrev pub slot_in : List ℕ → ℕ → ℕ → ℕ → ℕ → ℕ → ℤ
slot_in file k c step n i = number_in file k (slot_start c step n i) slot_width

abbrev pub slot_at : List ℕ → ℕ → Row → ℕ → ℤ
slot_at file k r i = slot_in file k (row_span_of r).start (row_span_of r).step (row_span_of r).count i
