-- What `measure` prints of an accepted file, over the judge's definitions: the serial and the code are numbers of the A record, and the
-- measure is that area's. Assumes nothing.
use mathlib.Core.List.{List}
use mathlib.Core.Path.{◌≡◌, refl, ap}
use Prim.Native.Nat.{ℕ, suc, ◌+◌, ◌<◌}
use lib.IntN.{pos}
use lib.ListN.{get_or}
use Rattle.records.specs.View.{record_of, number_in}
use Rattle.records.specs.Columns.{area_code, area_serial, span_of, value_at, code_on}
use Rattle.permitted.specs.Permitted.{size}
use Rattle.rules.specs.declared.Due.TheVariants.{Area}
use Rattle.walk.specs.declared.State.{State}
use Rattle.walk.specs.States.{size_in, due_of, state_at, counts_at}
use Rattle.walk.specs.Stages.{records_of}
use Rattle.walk.specs.Table.{table_of}
use Rattle.layers.specs.Passing.{layer_at, bases_in}
use Rattle.entries.specs.Loops.{area_measure_in}
use Rattle.judge.specs.Outcomes.{measures_of}
use Rattle.judge.proofs.Measures.{measure_place}
use Rattle.report.specs.Texts.{shown_in, area_text, record_text}

-- RULES 4.6: an A's serial at 10, its code at 5
pub serial_told : (file : List ℕ) (s : State) (k : ℕ) → (shown_in s (record_of file k)).area ≡ size (value_at file k area_serial)
unfolding shown_in size_in number_in
serial_told file s k = refl

pub code_told : (file : List ℕ) (s : State) (k : ℕ) → (shown_in s (record_of file k)).code ≡ size (code_on file k (span_of area_code))
unfolding shown_in
code_told file s k = refl

-- RULES 12.2: the line of the A that stands behind k records: the measure in it is that of this area
pub area_line : (file : List ℕ) (k : ℕ) → k < records_of file → {layer last : ℕ} → due_of (state_at file k) ≡ Area layer last
    → record_text (due_of (state_at file k)) (state_at file k) (record_of file (suc k)) (get_or (measures_of file) (counts_at file k).areas (pos 0))
    ≡ area_text (shown_in (state_at file k) (record_of file (suc k))) (area_measure_in file (table_of file) (layer_at file (table_of file) (bases_in file) k) (k + 1))
unfolding record_text
area_line file k l e = rw e (ap (area_text (shown_in (state_at file k) (record_of file (suc k)))) (measure_place file k l e))
