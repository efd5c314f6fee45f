-- Where the code stores the words of a record. It serves the code and is no part of a promise. Assumes nothing.
use Rattle.std.specs.Prelude.{List, ◌++◌, ℕ, ◌+◌, ◌*◌, ◌≤◌, take, drop}
use Rattle.rules.specs.declared.Due.{Due}
use Rattle.rules.specs.declared.Due.TheVariants.{Mesh, Layer, Node, Line, Coordinates, Area, Loop}
use Rattle.walk.specs.declared.Counts.{Counts}
use Rattle.walk.specs.Row.{row_length}
use Rattle.walk.specs.declared.Bases.{Bases}
use Rattle.walk.specs.Table.{row_words, line_words, area_words, gather, filled}

-- the words of a record, whichever section they are for
abbrev pub record_words : Due → List ℕ → ℕ → List ℕ
record_words d t r = row_words d t r ++ (line_words d t r ++ area_words d t r)

-- where they go, behind the counts c
abbrev pub stored_at : Due → Counts → Bases → ℕ
stored_at (Mesh last) c b = 0
stored_at (Layer last) c b = row_length * c.layers
stored_at (Node layer last) c b = 0
stored_at (Line layer last letters) c b = b.lines + c.lines
stored_at (Coordinates left) c b = 0
stored_at (Area layer last) c b = b.areas + c.areas
stored_at (Loop last count left) c b = 0

-- how many they are
abbrev pub many_of : Due → ℕ
many_of (Mesh last) = 0
many_of (Layer last) = row_length
many_of (Node layer last) = 0
many_of (Line layer last letters) = 1
many_of (Coordinates left) = 0
many_of (Area layer last) = 1
many_of (Loop last count left) = 0

-- they have room in a buffer of n words
pub record Roomy (d : Due) (c : Counts) (b : Bases) (n : ℕ) : Type 0 where
  pub room : stored_at d c b + many_of d ≤ n

-- the three sections, where the words of the first k records stand in them and what was in the buffer d before behind each. The
-- sections of rows and of lines have p and q words
unfoldable pub Sections : List ℕ → ℕ → ℕ → ℕ → List ℕ → List ℕ
Sections file p q k d =
    filled (gather row_words file k) (take p d)
    ++ (filled (gather line_words file k) (take q (drop p d))
    ++ filled (gather area_words file k) (drop q (drop p d)))
