-- What is due at a record (RULES 9.10). The walk says it: `due_of` of the state behind the records before it. Assumes nothing.
--   due_at file r     the kind of record that is due at record r of the file, or nothing
use Rattle.std.specs.Prelude.{cond, List, ℕ, zero, suc, leb, Option, Some, None}
use Rattle.records.specs.declared.Kind.{Kind}
use Rattle.rules.specs.Checks.{kind_of}
use Rattle.walk.specs.States.{due_of, state_at}
use Rattle.walk.specs.Stages.{records_of}

-- RULES 9.10: record k + 1 stands behind k records. Told of each record that is looked at and of the first one behind them; nothing for record 0
-- and for records further on
unfoldable pub due_at : List ℕ → ℕ → Option Kind
due_at file zero = None
due_at file (suc k) = cond (leb k (records_of file)) (Some (kind_of (due_of (state_at file k)))) None
