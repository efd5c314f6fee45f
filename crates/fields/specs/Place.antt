-- Where a field stands (RULES 1.4: columns count from 1). Assumes nothing.
--   is_inside s c w  the w columns from column c on lie within s
--   bytes_at s c w    their bytes
--   put s c t        s with the bytes t from column c on
use Rattle.std.specs.Prelude.{Bool, ◌&&◌, List, ◌++◌, ℕ, ◌+◌, ◌-◌, leb, length, take, drop}

-- RULES 1.4: there is no column 0
unfoldable pub is_inside : List ℕ → ℕ → ℕ → Bool
is_inside s c w = leb 1 c && leb (c - 1 + w) (length s)

unfoldable pub bytes_at : List ℕ → ℕ → ℕ → List ℕ
bytes_at s c w = take w (drop (c - 1) s)

unfoldable pub put : List ℕ → ℕ → List ℕ → List ℕ
put s c t = take (c - 1) s ++ (t ++ drop (c - 1 + length t) s)
