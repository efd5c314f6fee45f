-- How a value is spelled in a number field (RULES 3.1: digits at the right end, spaces in front), column by column from the right.
-- Assumes nothing.
--   spell w v        the w columns of the value v
--   columns w l      the last w columns, where l is still to be written
--   Says s c w v     the w columns of s from column c on say v: they are there, the width holds v, and v is spelled so
use Rattle.std.specs.Prelude.{◌≡◌, true, false, cond, List, [], ◌∷◌, ◌++◌, ℕ, zero, suc, ◌+◌, ◌/◌, ◌%◌, leb, ℤ, pos, negsuc}
use Rattle.fields.specs.Place.{is_inside, bytes_at}
use Rattle.fields.specs.Number.{holds}
use Rattle.fields.specs.declared.Left.{Left}
use Rattle.fields.specs.declared.Left.TheVariants.{Blanks, Minus, Digits}

-- the byte of the last column
abbrev pub last_of : Left → ℕ
last_of Blanks = 32
last_of Minus = 45
last_of (Digits n minus) = 48 + n % 10

-- RULES 3.1: what is left before it: the other digits, a minus sign directly before the digits, spaces in front
abbrev pub rest_of : Left → Left
rest_of Blanks = Blanks
rest_of Minus = Blanks
rest_of (Digits n minus) = cond (leb 10 n) (Digits (n / 10) minus) (cond minus Minus Blanks)

unfoldable pub columns : ℕ → Left → List ℕ
columns zero l = []
columns (suc w) l = columns w (rest_of l) ++ (last_of l ∷ [])

-- a value, as what is to be written
abbrev pub left_of : ℤ → Left
left_of (pos n) = Digits n false
left_of (negsuc n) = Digits (suc n) true

unfoldable pub spell : ℕ → ℤ → List ℕ
spell w v = columns w (left_of v)

pub record Says (s : List ℕ) (c w : ℕ) (v : ℤ) : Type 0 where
  pub there : is_inside s c w ≡ true
  pub held : holds w v ≡ true
  pub spelled : bytes_at s c w ≡ spell w v
