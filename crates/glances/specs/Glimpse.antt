-- What a glance at a field says of the answer to it: the value, where that is one from 0 to 99999, and else nothing; a sum that is the
-- value of a field that is known to be well formed; and the end of a field that says 0. It serves the code's speed and is no part of a
-- promise. Assumes nothing.
use Rattle.std.specs.Prelude.{Bool, cond, ◌&&◌, List, [], ◌∷◌, ℕ, ◌+◌, ◌-◌, ◌*◌, ◌%◌, ltb, leb, eqb, ℤ, pos, negsuc, length, get_or, Option, Some, None}
use Rattle.fields.specs.Place.{is_inside, bytes_at}

-- a glance is sure of the numbers from 0 to 99999, and of nothing else
abbrev pub glimpse_of : Option ℤ → Option ℕ
glimpse_of (Some (pos v)) = cond (ltb v 100000) (Some v) None
glimpse_of (Some (negsuc v)) = None
glimpse_of None = None

-- the remainders by 16 of a field's bytes, added up at the powers of ten; those before came to n
unfoldable pub remainders : ℕ → List ℕ → ℕ
remainders n [] = n
remainders n (b ∷ bs) = remainders (n * 10 + b % 16) bs

-- the same of the w columns of s from column c on; 0 where they do not lie within s
unfoldable pub remainders_at : List ℕ → ℕ → ℕ → ℕ
remainders_at s c w = cond (is_inside s c w) (remainders 0 (bytes_at s c w)) 0

-- a field ends in a space and a "0"
unfoldable pub is_lone_zero : List ℕ → Bool
is_lone_zero f = leb 2 (length f) && (eqb (get_or f (length f - 1) 0) 48 && eqb (get_or f (length f - 2) 0) 32)
