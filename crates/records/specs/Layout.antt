-- The layout of each kind of record (RULES 4.1 to 4.7): its fields in column order, each with its first column and its width. `Letters a b c`
-- are type letters, in columns 1 and 2: a, and behind it b or c; in all kinds but H these two are the same.
-- RULES 3.4: each run of columns up to 72 that no other field has is one blank field. Assumes nothing.
--   layout_of k       the fields of kind k
--   start_of, width_of a field's first column, and how many columns it takes
--   numbers_of, bytes_of, marks_of  how many numbers, name bytes and marks it gives to the record's value
use Rattle.std.specs.Prelude.{List, [], ◌∷◌, ◌++◌, ℕ, zero, suc, ◌+◌}
use Rattle.records.specs.declared.Kind.{Kind}
use Rattle.records.specs.declared.Kind.TheVariants.{Mesh, Layer, Node, Line, Coordinates, Area, Loop}
use Rattle.records.specs.declared.Field.{Field}
use Rattle.records.specs.declared.Field.TheVariants.{Letters, Number, Code, Name, Blank}

-- n numbers of width w in a row, from column c on
abbrev pub row : ℕ → ℕ → ℕ → List Field
row c w zero = []
row c w (suc n) = Number c w ∷ row (c + w) w n

-- RULES 4.1: M. "M " 1-2; mesh code 3-8; name 9-28; layers 29-31; nodes 32-36; lines 37-41; areas 42-46; points 47-51; records 52-56
abbrev pub mesh_layout : List Field
mesh_layout =
    Letters 77 32 32
    ∷ Number 3 6
    ∷ Name 9 20
    ∷ Number 29 3
    ∷ Number 32 5
    ∷ Number 37 5
    ∷ Number 42 5
    ∷ Number 47 5
    ∷ Number 52 5
    ∷ Blank 57 16
    ∷ []

-- RULES 4.2: H. "H1" or "H2" 1-2; layer code 3-4; nodes 5-9; lines 10-14; areas 15-19; points 20-24; records 25-29; first made 31-34;
-- last changed 36-39
abbrev pub layer_layout : List Field
layer_layout =
    Letters 72 49 50
    ∷ Number 3 2
    ∷ Number 5 5
    ∷ Number 10 5
    ∷ Number 15 5
    ∷ Number 20 5
    ∷ Number 25 5
    ∷ Blank 30 1
    ∷ Number 31 4
    ∷ Blank 35 1
    ∷ Number 36 4
    ∷ Blank 40 33
    ∷ []

-- RULES 4.3: N. "N " 1-2; layer code 3-4; item 5-6; serial 7-11; X 12-16; Y 17-21; frame 22-23; count 24-25; nine entries of width 5
-- in 26-70
abbrev pub node_layout : List Field
node_layout =
    Letters 78 32 32
    ∷ Number 3 2
    ∷ Number 5 2
    ∷ Number 7 5
    ∷ Number 12 5
    ∷ Number 17 5
    ∷ Number 22 2
    ∷ Number 24 2
    ∷ (row 26 5 9 ++ (Blank 71 2 ∷ []))

-- RULES 4.4: L. "L " 1-2; layer code 3-4; item 5-6; serial 7-11; kind 12-17; start node 18-22, its link 23; end node 24-28,
-- its link 29; left code 30-34, left area 35-39; right code 40-44, right area 45-49; points 50-55; unused 56-57 and 58-60
abbrev pub line_layout : List Field
line_layout =
    Letters 76 32 32
    ∷ Number 3 2
    ∷ Number 5 2
    ∷ Number 7 5
    ∷ Number 12 6
    ∷ Number 18 5
    ∷ Number 23 1
    ∷ Number 24 5
    ∷ Number 29 1
    ∷ Code 30 5
    ∷ Number 35 5
    ∷ Code 40 5
    ∷ Number 45 5
    ∷ Number 50 6
    ∷ Number 56 2
    ∷ Number 58 3
    ∷ Blank 61 12
    ∷ []

-- RULES 4.5: coordinates. X and Y of seven points, of width 5 each, in 1-70
abbrev pub coordinates_layout : List Field
coordinates_layout = row 1 5 14 ++ (Blank 71 2 ∷ [])

-- RULES 4.6: A. "A " 1-2; layer code 3-4; code 5-9; serial 10-14; X 15-19; Y 20-24; loops 25-28; lines 29-32; name 33-72
abbrev pub area_layout : List Field
area_layout =
    Letters 65 32 32
    ∷ Number 3 2
    ∷ Code 5 5
    ∷ Number 10 5
    ∷ Number 15 5
    ∷ Number 20 5
    ∷ Number 25 4
    ∷ Number 29 4
    ∷ Name 33 40
    ∷ []

-- RULES 4.7: loop. Serial 1-5; line count 6-9; twelve entries of width 5 in 10-69
abbrev pub loop_layout : List Field
loop_layout = Number 1 5 ∷ Number 6 4 ∷ (row 10 5 12 ++ (Blank 70 3 ∷ []))

unfoldable pub layout_of : Kind → List Field
layout_of Mesh = mesh_layout
layout_of Layer = layer_layout
layout_of Node = node_layout
layout_of Line = line_layout
layout_of Coordinates = coordinates_layout
layout_of Area = area_layout
layout_of Loop = loop_layout

-- RULES 1.4: a field's place is the column where it starts; type letters stand in columns 1 and 2
abbrev pub start_of : Field → ℕ
start_of (Letters a b c) = 1
start_of (Number c w) = c
start_of (Code c w) = c
start_of (Name c w) = c
start_of (Blank c w) = c

abbrev pub width_of : Field → ℕ
width_of (Letters a b c) = 2
width_of (Number c w) = w
width_of (Code c w) = w
width_of (Name c w) = w
width_of (Blank c w) = w

abbrev pub numbers_of : Field → ℕ
numbers_of (Letters a b c) = 0
numbers_of (Number c w) = 1
numbers_of (Code c w) = 1
numbers_of (Name c w) = 0
numbers_of (Blank c w) = 0

abbrev pub bytes_of : Field → ℕ
bytes_of (Letters a b c) = 0
bytes_of (Number c w) = 0
bytes_of (Code c w) = 0
bytes_of (Name c w) = w
bytes_of (Blank c w) = 0

-- RULES 4.8: a code gives its mark
abbrev pub marks_of : Field → ℕ
marks_of (Letters a b c) = 0
marks_of (Number c w) = 0
marks_of (Code c w) = 1
marks_of (Name c w) = 0
marks_of (Blank c w) = 0

-- over a whole layout
unfoldable pub total : (Field → ℕ) → List Field → ℕ
total g [] = 0
total g (f ∷ fs) = g f + total g fs
