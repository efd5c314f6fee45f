-- What reading gives. Assumes nothing.
use Rattle.std.specs.Prelude.{List, ℕ, ◌<◌, length, take, Option, Result, Ok, Err}
use Rattle.std.specs.Io.KnownBytes.{Consumes, IsAtEnd}
use Rattle.io.specs.Counts.{IsPrefixLen}
use Rattle.streams.specs.declared.Failed.{Failed}

-- the bytes stand at the start of the buffer
abbrev pub Within : Result ℕ Failed → List ℕ → Type 0
Within (Ok n) buffer = IsPrefixLen n buffer
Within (Err failed) buffer = Unit {0}

-- where it is known what a reader has left: the bytes are the first of it, and all of it where they do not fill the buffer
abbrev pub Taken : Option (List ℕ) → Option (List ℕ) → Result ℕ Failed → List ℕ → Type 0
Taken old new (Ok n) buffer = Consumes old new (take n buffer) × (n < length buffer → IsAtEnd new)
Taken old new (Err failed) buffer = Unit {0}
