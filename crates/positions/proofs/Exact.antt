-- Each whole number is converted exactly (RULES 10): the f64 of a permitted point's whole number is that number itself, with no rounding, as
-- is that of every whole number up to 2^53. `HasValue x false n 1` says that x is finite, not negative, and n / 1 in size. Assumes nothing.
use mathlib.Core.Bool.{true, false}
use mathlib.Core.Path.{◌≡◌}
use Prim.Native.Nat.{ℕ, ◌^◌, ◌≤◌}
use native.Mathlib.Omega.{arith}
use lib.IntN.{ℤ, pos}
use lib.Ieee.{binary64, of_int}
use lib.Ieee.Exact.{HasValue}
use lib.Ieee.Back.{round_whole}
use Rattle.permitted.specs.Permitted.{size, is_mesh_code, is_coordinate}
use Rattle.permitted.proofs.Bounds.{within_most, code_most}
use Rattle.positions.specs.Degrees.{hundredths, two_hundredths}

-- every whole number up to 2^53 is an f64, and its conversion is that f64
pub whole_exact : (n : ℕ) → n ≤ 2 ^ 53 → HasValue (of_int binary64 (pos n)) false n 1
unfolding of_int
whole_exact n h = round_whole binary64 false n h

module _ (m : ℤ) (code : is_mesh_code m ≡ true) (n : ℤ) (coordinate : is_coordinate n ≡ true) where
  pub latitude_exact : HasValue (of_int binary64 (pos (hundredths (size m) (size n)))) false (hundredths (size m) (size n)) 1
  unfolding hundredths
  latitude_exact = whole_exact _ (omega (arith, code_most m code, within_most 0 10000 n coordinate))

  pub longitude_exact : HasValue (of_int binary64 (pos (two_hundredths (size m) (size n)))) false (two_hundredths (size m) (size n)) 1
  unfolding two_hundredths
  longitude_exact = whole_exact _ (omega (arith, code_most m code, within_most 0 10000 n coordinate))
