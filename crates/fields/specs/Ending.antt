-- What the reader's own steps say of a field that they go through from the right. It serves the code and is no part of a promise.
-- Assumes nothing.
use Rattle.std.specs.Prelude.{◌≡◌, false, List, ℕ, ◌+◌, ◌-◌, ◌*◌, ◌^◌, ◌<◌, ◌≤◌, pos, length, get_or, drop, Some}
use Rattle.fields.specs.Number.{is_digit, digits_of}

-- from index i on f has digits alone, and they say n
pub record DigitsFrom (f : List ℕ) (i n : ℕ) : Type 0 where
  pub inside : i ≤ length f
  pub start : i < length f → 48 ≤ get_or f i 0
  pub small : n < 10 ^ (length f - i)
  pub said : (a : ℕ) → digits_of a (drop i f) ≡ Some (pos (a * 10 ^ (length f - i) + n))

-- and no digit stands before them
pub record EndsIn (f : List ℕ) (i n : ℕ) : Type 0 where
  pub digits : DigitsFrom f i n
  pub all : 0 < i → is_digit (get_or f (i - 1) 0) ≡ false

-- a field of at most six columns with digits at its end, of which a first 0 stands alone
pub record Plain (f : List ℕ) (i n : ℕ) : Type 0 where
  pub ends : EndsIn f i n
  pub some : i < length f
  pub narrow : length f ≤ 6
  pub alone : get_or f i 0 ≡ 48 → i + 1 ≡ length f
