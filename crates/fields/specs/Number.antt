-- What a number field says (RULES 3.1, 3.2), for every width at once. Assumes nothing.
--   number_of f       the answer to the bytes f of a whole field: their value, or a refusal
--   number_at s c w   the answer to the w columns of s from column c on
--   holds w v        width w holds the value v
use Rattle.std.specs.Prelude.{Bool, cond, ◌&&◌, List, [], ◌∷◌, ℕ, zero, suc, ◌+◌, ◌-◌, ◌*◌, ◌^◌, length, leb, eqb, ℤ, pos, negsuc, neg_ℤ, Option, Some, None}
use Rattle.std.specs.Int.Signed.{le_z}
use Rattle.fields.specs.Place.{is_inside, bytes_at}

-- the codes of the space, the minus sign and the digits
abbrev pub is_blank : ℕ → Bool
is_blank b = eqb b 32

abbrev pub is_minus : ℕ → Bool
is_minus b = eqb b 45

abbrev pub is_digit : ℕ → Bool
is_digit b = leb 48 b && leb b 57

-- RULES 3.1: spaces stand in front; what follows them
unfoldable pub after_blanks : List ℕ → List ℕ
after_blanks [] = []
after_blanks (b ∷ bs) = cond (is_blank b) (after_blanks bs) (b ∷ bs)

-- RULES 3.1: decimal digits up to the end, where those before them came to n
unfoldable pub digits_of : ℕ → List ℕ → Option ℤ
digits_of n [] = Some (pos n)
digits_of n (b ∷ bs) = cond (is_digit b) (digits_of (n * 10 + (b - 48)) bs) None

-- RULES 3.1, ours: zero is "0"; after a first digit 0 there is nothing
abbrev pub zero_then : List ℕ → Option ℤ
zero_then [] = Some (pos 0)
zero_then (b ∷ bs) = None

-- RULES 3.1, ours: no leading zeros; no digit at all is wrong
unfoldable pub plain_of : List ℕ → Option ℤ
plain_of [] = None
plain_of (b ∷ bs) = cond (eqb b 48) (zero_then bs) (digits_of 0 (b ∷ bs))

-- RULES 3.1, ours: never "-0"
abbrev pub minus : Option ℤ → Option ℤ
minus (Some (pos zero)) = None
minus (Some (pos (suc n))) = Some (negsuc n)
minus (Some (negsuc n)) = None
minus None = None

-- RULES 3.1, ours: a minus sign stands directly before the digits; a field of spaces alone is wrong
unfoldable pub signed_of : List ℕ → Option ℤ
signed_of [] = None
signed_of (b ∷ bs) = cond (is_minus b) (minus (plain_of bs)) (plain_of (b ∷ bs))

-- RULES 3.2: number fields are 1 to 6 columns wide
abbrev pub is_width : ℕ → Bool
is_width w = leb 1 w && leb w 6

-- RULES 3.1, 3.2: a field of that width, by what follows the spaces
unfoldable pub number_of : List ℕ → Option ℤ
number_of f = cond (is_width (length f)) (signed_of (after_blanks f)) None

unfoldable pub number_at : List ℕ → ℕ → ℕ → Option ℤ
number_at s c w = cond (is_inside s c w) (number_of (bytes_at s c w)) None

-- RULES 3.2: a field of w columns holds -(10^(w-1) - 1) to 10^w - 1; one column holds 0 to 9
abbrev pub lowest : ℕ → ℤ
lowest w = neg_ℤ (pos (10 ^ (w - 1) - 1))

abbrev pub highest : ℕ → ℤ
highest w = pos (10 ^ w - 1)

unfoldable pub holds : ℕ → ℤ → Bool
holds w v = is_width w && (le_z (lowest w) v && le_z v (highest w))
