-- The worked number fields of RULES 11.2, with the ends of the range of width 1 and of width 2, as one list under one theorem.
-- Assumes nothing.
use mathlib.Core.List.{List, [], ◌∷◌, map}
use mathlib.Core.Path.{◌≡◌, refl}
use Prim.Native.Nat.{ℕ}
use lib.IntN.{ℤ, pos, negsuc}
use Rattle.std.specs.Prelude.{Option, Some, None}
use Rattle.fields.specs.Number.{number_of, signed_of, plain_of, digits_of, after_blanks}

unfoldable pub cases : List (List ℕ)
cases =
    (32 ∷ 32 ∷ 32 ∷ 45 ∷ 49 ∷ [])
    ∷ (48 ∷ 48 ∷ 48 ∷ 48 ∷ 49 ∷ [])
    ∷ (32 ∷ 32 ∷ 32 ∷ 45 ∷ 48 ∷ [])
    ∷ (32 ∷ 32 ∷ 32 ∷ 32 ∷ 32 ∷ [])
    ∷ (48 ∷ [])
    ∷ (57 ∷ [])
    ∷ (45 ∷ [])
    ∷ (45 ∷ 57 ∷ [])
    ∷ []

-- RULES 11.2: "   -1" is -1; "00001", "   -0" and five spaces are 5. Beside it: "0" and "9" are 0 and 9, "-" is 5, "-9" is -9
unfoldable pub answers : List (Option ℤ)
answers =
    Some (negsuc 0) ∷ None ∷ None ∷ None ∷ Some (pos 0) ∷ Some (pos 9) ∷ None ∷ Some (negsuc 8) ∷ []

pub worked : map number_of cases ≡ answers
unfolding cases answers number_of signed_of plain_of digits_of after_blanks
worked = refl
