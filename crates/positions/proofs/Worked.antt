-- The worked positions of RULES 10, and points that are not permitted. Assumes nothing.
-- 35.75 is 143 * 2^-2, 139.75 is 559 * 2^-2 and 139.625 is 1117 * 2^-3; `negsuc n` is -(n + 1).
use mathlib.Core.Path.{◌≡◌, refl}
use mathlib.Core.Bool.{false}
use lib.IntN.{pos, negsuc}
use lib.Ieee.{fin, div, of_int}
use Rattle.permitted.specs.Permitted.{within, is_mesh_code}
use Rattle.positions.specs.Degrees.{hundredths, two_hundredths, degrees, not_placed, position_of}

-- RULES 10: in mesh 533945 the point (10000,10000) lies at 35.75 and 139.75
pub corner : position_of (pos 533945) (pos 10000) (pos 10000)
    ≡ record { number = 0; position = record { latitude = fin false 143 (negsuc 1); longitude = fin false 559 (negsuc 1) } }
unfolding within is_mesh_code hundredths two_hundredths degrees position_of div of_int
corner = refl

-- RULES 10: and (0,0) at longitude 139.625
pub origin_longitude : (position_of (pos 533945) (pos 0) (pos 0)).position.longitude ≡ fin false 1117 (negsuc 2)
unfolding within is_mesh_code hundredths two_hundredths degrees position_of div of_int
origin_longitude = refl

-- RULES 5.1: a mesh code's last two digits are 0 to 7 each
pub digit_8 : position_of (pos 533985) (pos 0) (pos 0)
    ≡ record { number = 6; position = record { latitude = fin false 0 (pos 0); longitude = fin false 0 (pos 0) } }
unfolding within is_mesh_code position_of
digit_8 = refl

-- RULES 5.5: X and Y are 0 to 10000
pub x_10001 : position_of (pos 533945) (pos 10001) (pos 0) ≡ not_placed
unfolding within is_mesh_code position_of
x_10001 = refl

pub x_minus_1 : position_of (pos 533945) (negsuc 0) (pos 0) ≡ not_placed
unfolding within is_mesh_code position_of
x_minus_1 = refl
