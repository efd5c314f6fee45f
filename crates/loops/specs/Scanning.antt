-- What is known of an area's entries without a scan, and what is kept of a layer's lines. It serves the code and is no part of a promise.
-- Assumes nothing.
use Rattle.std.specs.Prelude.{Bool, true, false, cond, List, ◌≡◌, ℕ, ◌+◌, ◌*◌, ◌<◌, ℤ, get_or}
use Rattle.std.proofs.Math.ListN as ListN
use Rattle.permitted.specs.Permitted.{natural, size, is_zero}
use Rattle.rules.specs.declared.Due.{Due}
use Rattle.rules.specs.declared.Due.TheVariants as due
use Rattle.walk.specs.States.{counts_at}
use Rattle.walk.specs.Stages.{records_of}
use Rattle.layers.specs.declared.Bases.{Bases}
use Rattle.layers.specs.declared.Layer.{Layer}
use Rattle.layers.specs.Naming.{layer_in}
use Rattle.entries.specs.Keeping.{Kept, SoundLayer}
use Rattle.links.specs.Links.{slot_of}
use Rattle.links.specs.Scanning.{clean}
use Rattle.loops.specs.Loops.{area_record}

-- where an entry leaves its mark: two places for each line
abbrev pub mark_of : ℤ → ℕ
mark_of v = 2 * size v + cond (natural v) 0 1

-- the first n slots of the area are no entries or repeat none
pub record Unrepeated (file : List ℕ) (a n : ℕ) : Type 0 where
  pub unrepeated : (e : ℕ) → e < n → clean (slot_of file (a + 1)) e ≡ true

-- what marking the entry v with a shows and does: true only where v is no entry, or didn't bear that mark and bears it now
pub record Marking (before : List ℕ) (v : ℤ) (a : ℕ) (r : Bool) (after : List ℕ) : Type 0 where
  pub length : ListN.length after ≡ ListN.length before
  pub fresh : r ≡ true → is_zero v ≡ false → (get_or before (mark_of v) 0 ≡ a → ⊥) × (get_or after (mark_of v) 0 ≡ a)
  pub kept : r ≡ true → (i : ℕ) → get_or before i 0 ≡ a → get_or after i 0 ≡ a

-- what is to be kept before a record: its layer's line measures before a loop record, else nothing
abbrev pub KeptFor : Due → List ℕ → List ℕ → Layer → List ℤ → Type 0
KeptFor (due.Mesh last) file t l ms = Unit {0}
KeptFor (due.Layer last) file t l ms = Unit {0}
KeptFor (due.Node layer last) file t l ms = Unit {0}
KeptFor (due.Line layer last letters) file t l ms = Unit {0}
KeptFor (due.Coordinates left) file t l ms = Unit {0}
KeptFor (due.Area layer last) file t l ms = Unit {0}
KeptFor (due.Loop last count left) file t l ms = Kept file t l ms

-- the lines of the file's layers, where the table t says that they stand, are known to be well formed
pub record SoundTable (file t : List ℕ) (b : Bases) : Type 0 where
  pub layers : (i : ℕ) → i < (counts_at file (records_of file)).layers → SoundLayer file t (layer_in t b i)

-- what is known behind a record: of the next area behind an A, of the same one behind a loop record
abbrev pub KnownBehind : Due → List ℕ → List ℕ → Layer → ℕ → ℕ → Type 0
KnownBehind (due.Mesh last) file t l area r = r ≡ 0
KnownBehind (due.Layer last) file t l area r = r ≡ 0
KnownBehind (due.Node layer last) file t l area r = r ≡ 0
KnownBehind (due.Line layer last letters) file t l area r = r ≡ 0
KnownBehind (due.Coordinates left) file t l area r = r ≡ 0
KnownBehind (due.Area layer last) file t l area r = Unrepeated file (area_record t l (area + 1)) r
KnownBehind (due.Loop last count left) file t l area r = Unrepeated file (area_record t l area) r
