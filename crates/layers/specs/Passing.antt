-- The layer of a record, in which its numbers name records (RULES 2.3, 2.7): each H begins another one. Assumes nothing.
--   is_layer d          an H is due
--   bases_of c          where the lines and the areas begin in the table of a file with the counts c
--   layer_at file t b k  the layer of the record behind the first k
--   layer_of file i     layer i of the file, counted from 0
use Rattle.std.specs.Prelude.{Bool, true, false, List, ℕ, ◌+◌, ◌*◌, ◌-◌}
use Rattle.rules.specs.declared.Due.{Due}
use Rattle.rules.specs.declared.Due.TheVariants.{Mesh, Layer, Node, Line, Coordinates, Area, Loop}
use Rattle.walk.specs.declared.Counts.{Counts}
use Rattle.walk.specs.Row.{row_length}
use Rattle.walk.specs.States.{counts_at}
use Rattle.walk.specs.Stages.{records_of}
use Rattle.walk.specs.Table.{table_of}
use Rattle.layers.specs.declared.Bases.{Bases}
use Rattle.layers.specs.declared.Layer as layers
use Rattle.layers.specs.Naming.{layer_in}

abbrev pub is_layer : Due → Bool
is_layer (Mesh last) = false
is_layer (Layer last) = true
is_layer (Node layer last) = false
is_layer (Line layer last letters) = false
is_layer (Coordinates left) = false
is_layer (Area layer last) = false
is_layer (Loop last count left) = false

-- RULES 8.1: a row for each layer; behind all rows each line's L record; then each area's A record
unfoldable pub bases_of : Counts → Bases
bases_of c = record { lines = row_length * c.layers; areas = row_length * c.layers + c.lines }

-- RULES 2.7: the layer of the record behind the first k
unfoldable pub layer_at : List ℕ → List ℕ → Bases → ℕ → layers.Layer
layer_at file t b k = layer_in t b ((counts_at file k).layers - 1)

-- ---- the layers of a file

-- where the lines and the areas begin in the file's own table
abbrev pub bases_in : List ℕ → Bases
bases_in file = bases_of (counts_at file (records_of file))

-- layer i of the file, counted from 0
abbrev pub layer_of : List ℕ → ℕ → layers.Layer
layer_of file i = layer_in (table_of file) (bases_in file) i
