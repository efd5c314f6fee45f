-- What a records total says of the file, without adding up (RULES 6.6). No contract cites it: `mesh_leads`, `layer_leads` and `leads_only`
-- (proofs/Leading.antt) hold the totals of stage 3 to it. Assumes nothing.
--   Leads r file k n   behind the first k records stand n that don't end the sums of rank r; then comes one that does, or the file ends
use Rattle.std.specs.Prelude.{List, ℕ, ◌+◌, ◌≤◌, ◌<◌}
use Rattle.walk.specs.States.{due_of, state_at}
use Rattle.walk.specs.Stages.{records_of}
use Rattle.totals.specs.Totals.{rank_of}

-- RULES 6.6: from an M (r is 0) to the next M, from an H (r is 1) to the next H or M; the bearer is the last of the first k records
pub record Leads (r : ℕ) (file : List ℕ) (k n : ℕ) : Type 0 where
  pub inside : k + n ≤ records_of file
  pub between : (i : ℕ) → i < n → r < rank_of (due_of (state_at file (k + i)))
  pub next : k + n < records_of file → rank_of (due_of (state_at file (k + n))) ≤ r
