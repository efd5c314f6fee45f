-- Where a point lies in degrees (RULES 10), for any whole numbers. Assumes nothing.
--   pp m, uu m, q m, v m    the digits of a mesh code m
--   hundredths m y          the latitude in hundredths of a second
--   two_hundredths m x      the longitude in 200ths of a second
--   degrees n d             n parts in degrees, where d parts make one
--   degrees_of m x y        both in degrees
--   not_placed              the answer to what is not permitted
--   placed m x y            the answer to what is permitted
--   position_of m x y        the answer to any numbers
use Rattle.std.specs.Prelude.{false, cond, ◌&&◌, ℕ, ◌+◌, ◌*◌, ◌/◌, ◌%◌, ℤ, pos, Float}
use Rattle.std.specs.Float.{fin, binary64}
use Rattle.std.specs.Float.Ieee.{div, of_int}
use Rattle.permitted.specs.Permitted.{size, is_mesh_code, is_coordinate}
use Rattle.positions.specs.declared.Position.{Position}
use Rattle.positions.specs.declared.Placed.{Placed}

-- RULES 10: the digits of a mesh code are pp, uu, q, v
abbrev pub pp : ℕ → ℕ
pp m = m / 10000

abbrev pub uu : ℕ → ℕ
uu m = m / 100 % 100

abbrev pub q : ℕ → ℕ
q m = m / 10 % 10

abbrev pub v : ℕ → ℕ
v m = m % 10

-- RULES 10: the latitude in hundredths of a second
unfoldable pub hundredths : ℕ → ℕ → ℕ
hundredths m y = pp m * 240000 + q m * 30000 + 3 * y

-- RULES 10: the longitude in 200ths of a second
unfoldable pub two_hundredths : ℕ → ℕ → ℕ
two_hundredths m x = (100 + uu m) * 720000 + v m * 90000 + 9 * x

-- RULES 10: degrees are 64-bit floating point numbers: each whole number, converted exactly, divided once, by 360000 or 720000
unfoldable pub degrees : ℕ → ℕ → Float
degrees n d = div binary64 (of_int binary64 (pos n)) (of_int binary64 (pos d))

abbrev pub degrees_of : ℕ → ℕ → ℕ → Position
degrees_of m x y = record { latitude = degrees (hundredths m y) 360000; longitude = degrees (two_hundredths m x) 720000 }

-- RULES 10: what is not permitted is 6, and both degrees are 0. The place is always 0, 0 and no part of the answer
abbrev pub not_placed : Placed
not_placed = record { number = 6; position = record { latitude = fin false 0 (pos 0); longitude = fin false 0 (pos 0) } }

-- RULES 10: acceptance, number 0, with the degrees
abbrev pub placed : ℕ → ℕ → ℕ → Placed
placed m x y = record { number = 0; position = degrees_of m x y }

-- RULES 10: a point is placed where its mesh code (RULES 5.1) and its X and Y (RULES 5.5) are permitted
unfoldable pub position_of : ℤ → ℤ → ℤ → Placed
position_of m x y = cond (is_mesh_code m && (is_coordinate x && is_coordinate y)) (placed (size m) (size x) (size y)) not_placed
