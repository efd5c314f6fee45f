-- Where a walk stands behind the first records of a file, and a stage that judges each record by where the walk then stands (RULES 2.7,
-- 6.1). Assumes nothing.
--   standing_at file t b k    the walk behind the first k records: the state, how many layers came, the layer of the next record, and k
--   Goes file t b x y         a step from x to y leads behind the next record
--   quiet_in file most x      how many quiet records come next, of those that the file has, and no more than `most`
--   past_by x h               the walk behind the next h records, which are quiet
--   rules_at, stage_of turn g  the checks g of the record behind the first k, and of every record, as rules of a turn
use Rattle.std.specs.Prelude.{List, ◌≡◌, ℕ, ◌+◌, ◌-◌, ◌<◌, min}
use Rattle.verdict.specs.Rules.{Rule, Check, block, rows}
use Rattle.walk.specs.States.{state_at, counts_at}
use Rattle.walk.specs.Stages.{records_of}
use Rattle.walk.specs.Quiet.{passed, quiet_ahead}
use Rattle.layers.specs.declared.Bases.{Bases}
use Rattle.layers.specs.declared.Standing.{Standing}
use Rattle.layers.specs.Passing.{layer_at}

abbrev pub standing_at : List ℕ → List ℕ → Bases → ℕ → Standing
standing_at file t b k = record { state = state_at file k; rows = (counts_at file k).layers; layer = layer_at file t b k; records = k }

-- from x, where the walk stands, to y, where it stands behind the next record, if the file has one
abbrev pub Goes : List ℕ → List ℕ → Bases → Standing → Standing → Type 0
Goes file t b x y = x ≡ standing_at file t b x.records → x.records < records_of file → y ≡ standing_at file t b (x.records + 1)

-- ---- over quiet records

unfoldable pub quiet_in : List ℕ → ℕ → Standing → ℕ
quiet_in file most x = min (min most (records_of file - x.records)) (quiet_ahead x.state)

abbrev pub past_by : Standing → ℕ → Standing
past_by x h = record { state = passed x.state h; rows = x.rows; layer = x.layer; records = x.records + h }

-- ---- a stage: g has the checks of the record that comes next

abbrev pub rules_at : ℕ → (Standing → List Check) → List ℕ → List ℕ → Bases → ℕ → List Rule
rules_at turn g file t b k = block turn (k + 1) (g (standing_at file t b k))

-- RULES 6.1: record by record
abbrev pub stage_of : ℕ → (Standing → List Check) → List ℕ → List ℕ → Bases → List Rule
stage_of turn g file t b = rows (records_of file) (rules_at turn g file t b)
