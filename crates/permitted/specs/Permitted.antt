-- Permitted values (RULES 5, and the tables of RULES 4), of a number v. Assumes nothing.
--   natural v, size v     v is 0 or more; v without its sign
--   is_zero v             v is 0
--   within low high v     v is one of low to high
--   the others            one rule each, with its section
use Rattle.std.specs.Prelude.{Bool, true, false, cond, ◌&&◌, ◌||◌, not, ℕ, suc, ◌/◌, ◌%◌, leb, ltb, eqb, ℤ, pos, negsuc, nat_abs}

abbrev pub natural : ℤ → Bool
natural (pos n) = true
natural (negsuc n) = false

abbrev pub size : ℤ → ℕ
size v = nat_abs v

abbrev pub is_zero : ℤ → Bool
is_zero v = eqb (size v) 0

unfoldable pub within : ℕ → ℕ → ℤ → Bool
within low high v = natural v && (leb low (size v) && leb (size v) high)

-- v is n
abbrev pub is : ℕ → ℤ → Bool
is n v = natural v && eqb (size v) n

abbrev pub at_least : ℕ → ℤ → Bool
at_least n v = natural v && leb n (size v)

-- RULES 5.1: a mesh code is 100000 to 999999, the last two digits 0 to 7 each
unfoldable pub is_mesh_code : ℤ → Bool
is_mesh_code v = within 100000 999999 v && (leb (size v / 10 % 10) 7 && leb (size v % 10) 7)

-- RULES 5.2: a mesh code is above the one before, with the same first four digits. Before the first mesh `last` is 0
unfoldable pub follows_mesh : ℕ → ℤ → Bool
follows_mesh last v = eqb last 0 || (ltb last (size v) && eqb (last / 100) (size v / 100))

-- RULES 4.2: a layer code is 1 or 5
abbrev pub one_or_five : ℕ → Bool
one_or_five n = eqb n 1 || eqb n 5

unfoldable pub is_layer_code : ℤ → Bool
is_layer_code v = natural v && one_or_five (size v)

-- RULES 5.2: a layer code rises within its mesh. Before a mesh's first layer `last` is 0
unfoldable pub follows_layer : ℕ → ℤ → Bool
follows_layer last v = ltb last (size v)

-- RULES 5.3: a date is year times 100 plus month; 0 is missing, else the year is 0 to 99 and the month 1 to 12
unfoldable pub is_date : ℤ → Bool
is_date v = natural v && (eqb (size v) 0 || (leb (size v / 100) 99 && (leb 1 (size v % 100) && leb (size v % 100) 12)))

-- RULES 5.5: X and Y are 0 to 10000, and never missing
abbrev pub is_coordinate : ℤ → Bool
is_coordinate v = within 0 10000 v

-- RULES 5.6, 5.7: what layer 1 and layer 5 permit
abbrev pub layered : ℕ → Bool → Bool → Bool
layered layer one five = cond (eqb layer 1) one (cond (eqb layer 5) five false)

-- RULES 4.3: a node's item is 1 to 4 in layer 1; in layer 5 it is 1, 6 or 8
abbrev pub node_item_one : ℕ → Bool
node_item_one n = leb 1 n && leb n 4

abbrev pub node_item_five : ℕ → Bool
node_item_five n = eqb n 1 || (eqb n 6 || eqb n 8)

unfoldable pub is_node_item : ℕ → ℤ → Bool
is_node_item layer v = natural v && layered layer (node_item_one (size v)) (node_item_five (size v))

-- RULES 5.5: a node's frame is 1 if its X or Y is 0 or 10000, and 0 if not
abbrev pub on_frame : ℕ → ℕ → Bool
on_frame x y = (eqb x 0 || eqb x 10000) || (eqb y 0 || eqb y 10000)

unfoldable pub is_frame : ℤ → ℤ → ℤ → Bool
is_frame x y v = natural v && eqb (size v) (cond (on_frame (size x) (size y)) 1 0)

-- RULES 4.4: a line's item is 1 to 5 or 9 in layer 1; in layer 5 it is 2 or 9
abbrev pub line_item_one : ℕ → Bool
line_item_one n = (leb 1 n && leb n 5) || eqb n 9

abbrev pub line_item_five : ℕ → Bool
line_item_five n = eqb n 2 || eqb n 9

unfoldable pub is_line_item : ℕ → ℤ → Bool
is_line_item layer v = natural v && layered layer (line_item_one (size v)) (line_item_five (size v))

-- RULES 4.4: a line's kind is 0, 1, 2 or 9 in layer 1; in layer 5 it is 1, 2 or 9; and it is 9 exactly if the item is 9
abbrev pub line_kind_one : ℕ → Bool
line_kind_one n = leb n 2 || eqb n 9

abbrev pub line_kind_five : ℕ → Bool
line_kind_five n = (leb 1 n && leb n 2) || eqb n 9

abbrev pub same : Bool → Bool → Bool
same true b = b
same false b = not b

unfoldable pub is_line_kind : ℕ → ℤ → ℤ → Bool
is_line_kind layer item v =
    natural v
    && (layered layer (line_kind_one (size v)) (line_kind_five (size v))
    && same (eqb (size v) 9) (eqb (size item) 9))

-- RULES 4.4: a link is 0 to 2
abbrev pub link_size : ℕ → Bool
link_size n = leb n 2

unfoldable pub is_link : ℤ → Bool
is_link v = natural v && link_size (size v)

-- RULES 5.7: a code is 1 to 99999 in layer 1; in layer 5 it is 0 to 99999, and 0 is land
unfoldable pub is_code : ℕ → ℤ → Bool
is_code layer v = natural v && layered layer (leb 1 (size v) && leb (size v) 99999) (leb (size v) 99999)

-- RULES 5.8: an L's area number is 0 or more; it is 0, nobody, exactly if the code beside it is 88888
unfoldable pub is_side : ℤ → ℤ → Bool
is_side code v = natural v && same (eqb (size v) 0) (eqb (size code) 88888)

-- RULES 5.10: what tells of areas, by its layer's letters: under H1, which are 1, it is 0; under H2 its own rule says ok
unfoldable pub of_areas : ℕ → ℤ → Bool → Bool
of_areas letters v ok = cond (eqb letters 1) (is 0 v) ok

-- RULES 5.7: an A's code is in the same range and never 88888
unfoldable pub is_area_code : ℕ → ℤ → Bool
is_area_code layer v = is_code layer v && not (eqb (size v) 88888)

-- RULES 5.9: in N and loop records a slot within the count is not 0, and one past it is 0
unfoldable pub is_slot : Bool → ℤ → Bool
is_slot counted v = cond counted (not (eqb (size v) 0)) (eqb (size v) 0)

-- RULES 5.9: in coordinate records the count alone says where the points end: past it every X and Y is 0, and within it (0,0) is a point
unfoldable pub is_point : Bool → ℤ → Bool
is_point counted v = cond counted (is_coordinate v) (eqb (size v) 0)

-- RULES 5.2: the serial of an N, L or A is the next from 1
unfoldable pub is_next : ℕ → ℤ → Bool
is_next last v = natural v && eqb (size v) (suc last)

-- RULES 5.2: the serials of an area's loops are 1, -2, -3 and on; v is that of loop n
unfoldable pub is_loop_serial : ℕ → ℤ → Bool
is_loop_serial n v = eqb (size v) n && same (natural v) (eqb n 1)
