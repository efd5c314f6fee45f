-- The other fields (RULES 3.3, 3.4): a name is two-byte characters of Shift JIS, a blank is spaces. Assumes nothing.
--   is_name f        the bytes f are two-byte characters
--   is_blanks f      the bytes f are spaces
--   text_at p s c w  whether the w columns of s from column c on are well formed, as p says
use Rattle.std.specs.Prelude.{Bool, true, false, cond, ◌&&◌, ◌||◌, List, [], ◌∷◌, ℕ, leb, eqb}
use Rattle.fields.specs.Place.{is_inside, bytes_at}

abbrev pub byte_within : ℕ → ℕ → ℕ → Bool
byte_within low high b = leb low b && leb b high

-- RULES 3.3: the first byte is 81 to 9F or E0 to FC, the second 40 to 7E or 80 to FC
abbrev pub is_pair : ℕ → ℕ → Bool
is_pair a b = (byte_within 0x81 0x9f a || byte_within 0xe0 0xfc a) && (byte_within 0x40 0x7e b || byte_within 0x80 0xfc b)

-- RULES 3.3: two-byte characters from end to end
unfoldable pub is_name : List ℕ → Bool
is_name [] = true
is_name (a ∷ []) = false
is_name (a ∷ b ∷ bs) = cond (is_pair a b) (is_name bs) false

-- RULES 3.4: spaces alone
unfoldable pub is_blanks : List ℕ → Bool
is_blanks [] = true
is_blanks (b ∷ bs) = cond (eqb b 32) (is_blanks bs) false

unfoldable pub text_at : (List ℕ → Bool) → List ℕ → ℕ → ℕ → Bool
text_at p s c w = is_inside s c w && p (bytes_at s c w)
