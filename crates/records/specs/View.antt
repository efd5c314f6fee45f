-- A record of a file (RULES 9.6), and a number of a record of a file. Assumes nothing.
use Rattle.std.specs.Prelude.{cond, ◌&&◌, List, [], ℕ, ◌-◌, ◌*◌, ◌/◌, leb, ℤ, length, take, drop}
use Rattle.fields.specs.Number.{number_at}
use Rattle.fields.specs.Answer.{value_of}

-- RULES 9.6: the 74 bytes of record k, or nothing if there is no record k; records count from 1; any whole 74 bytes are one
unfoldable pub record_of : List ℕ → ℕ → List ℕ
record_of file k = cond (leb 1 k && leb k (length file / 74)) (take 74 (drop (k * 74 - 74) file)) []

-- the number in the w columns from column c on of record k; 0 where there is none
unfoldable pub number_in : List ℕ → ℕ → ℕ → ℕ → ℤ
number_in file k c w = value_of (number_at (record_of file k) c w)
