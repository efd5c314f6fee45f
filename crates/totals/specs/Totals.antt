-- Stage 3 (RULES 6.6): 10 where a total of an M, an H or an A is not what was counted. M's nodes, lines and areas are the sums of its
-- layers'; A's lines are the sum of its loops' line counts; M's and H's records are those that follow in the mesh or layer, the bearer left out.
-- Assumes nothing.
--   rank_of d            0 for an M, 1 for an H, 3 for a loop record, 2 for the others; rank_number is the same of the code's ranks
--   sums_behind r file k what follows the first k records, up to the next of rank r or above, added up
--   total_checks d file k  the checks of stage 3 on record k + 1, due as d
--   stage_three file    all of them, in the order of RULES 6.1
use Rattle.std.specs.Prelude.{cond, List, [], ◌∷◌, ℕ, zero, suc, ◌+◌, ◌-◌, leb, eqb}
use Rattle.records.specs.View.{record_of}
use Rattle.records.specs.Columns.{Column, column_of, mesh_nodes, mesh_lines, mesh_areas, mesh_records}
use Rattle.records.specs.Columns.{layer_nodes, layer_lines, layer_areas, layer_records, area_lines, loop_count}
use Rattle.verdict.specs.Rules.{Rule, Check, check, block, rows}
use Rattle.rules.specs.declared.Due.{Due}
use Rattle.rules.specs.declared.Due.TheVariants.{Mesh, Layer, Node, Line, Coordinates, Area, Loop}
use Rattle.walk.specs.States.{size_at, due_of, state_at}
use Rattle.walk.specs.Stages.{records_of}
use Rattle.totals.specs.declared.Sums.{Sums}
use Rattle.totals.specs.declared.Rank.{Rank}
use Rattle.totals.specs.declared.Rank.TheVariants as rank

-- ---- what follows a record

-- RULES 2.3: the sums of an M end at the next M, those of an H at the next H or M, those of an A at the next that is no loop record
abbrev pub rank_of : Due → ℕ
rank_of (Mesh last) = 0
rank_of (Layer last) = 1
rank_of (Node layer last) = 2
rank_of (Line layer last letters) = 2
rank_of (Coordinates left) = 2
rank_of (Area layer last) = 2
rank_of (Loop last count left) = 3

-- the code's ranks, which the code compares by the order of their names
abbrev pub rank_number : Rank → ℕ
rank_number rank.Mesh = 0
rank_number rank.Layer = 1
rank_number rank.Part = 2
rank_number rank.Loop = 3

abbrev pub no_sums : Sums
no_sums = record { records = 0; nodes = 0; lines = 0; areas = 0; entries = 0 }

-- a record that is counted, and no more
abbrev pub one_more : Sums → Sums
one_more s = record { records = s.records + 1; nodes = s.nodes; lines = s.lines; areas = s.areas; entries = s.entries }

-- RULES 4.2: an H, with its totals
abbrev pub layer_more : Sums → List ℕ → Sums
layer_more s t = record {
  records = s.records + 1;
  nodes = s.nodes + size_at t layer_nodes;
  lines = s.lines + size_at t layer_lines;
  areas = s.areas + size_at t layer_areas;
  entries = s.entries;
}

-- RULES 4.7: a loop's first record, with its line count
abbrev pub loop_more : Sums → List ℕ → Sums
loop_more s t = record { records = s.records + 1; nodes = s.nodes; lines = s.lines; areas = s.areas; entries = s.entries + size_at t loop_count }

abbrev pub added_for : Due → Sums → List ℕ → Sums
added_for (Mesh last) s t = one_more s
added_for (Layer last) s t = layer_more s t
added_for (Node layer last) s t = one_more s
added_for (Line layer last letters) s t = one_more s
added_for (Coordinates left) s t = one_more s
added_for (Area layer last) s t = one_more s
added_for (Loop last count zero) s t = loop_more s t
added_for (Loop last count (suc left)) s t = one_more s

-- the sums s, with those of the n records behind the first k that come before the next of rank r or above
unfoldable pub sums_from : ℕ → List ℕ → ℕ → ℕ → Sums → Sums
sums_from r file k zero s = s
sums_from r file k (suc n) s =
    cond (leb (rank_of (due_of (state_at file k))) r)
    s
    (sums_from r file (suc k) n (added_for (due_of (state_at file k)) s (record_of file (suc k))))

-- RULES 6.6: those of what follows the first k records; the last of these, which bears the total, is no part of them
unfoldable pub sums_behind : ℕ → List ℕ → ℕ → Sums
sums_behind r file k = sums_from r file k (records_of file - k) no_sums

-- ---- the checks

-- RULES 6.6: 10 at a total that is not n, what was counted
abbrev pub total_check : List ℕ → Column → ℕ → Check
total_check t c n = check (column_of c) 10 (eqb (size_at t c) n)

-- RULES 6.6: M's nodes, lines, areas and records, of what follows it in its mesh: the M itself is no part of it
unfoldable pub mesh_totals : List ℕ → Sums → List Check
mesh_totals t s =
    total_check t mesh_nodes s.nodes
    ∷ total_check t mesh_lines s.lines
    ∷ total_check t mesh_areas s.areas
    ∷ total_check t mesh_records s.records
    ∷ []

-- RULES 6.6: H's records, of what follows it in its layer: the H itself is no part of it
unfoldable pub layer_totals : List ℕ → Sums → List Check
layer_totals t s = total_check t layer_records s.records ∷ []

-- RULES 6.6: A's lines
unfoldable pub area_totals : List ℕ → Sums → List Check
area_totals t s = total_check t area_lines s.entries ∷ []

abbrev pub total_checks : Due → List ℕ → ℕ → List Check
total_checks (Mesh last) file k = mesh_totals (record_of file (k + 1)) (sums_behind 0 file (k + 1))
total_checks (Layer last) file k = layer_totals (record_of file (k + 1)) (sums_behind 1 file (k + 1))
total_checks (Node layer last) file k = []
total_checks (Line layer last letters) file k = []
total_checks (Coordinates left) file k = []
total_checks (Area layer last) file k = area_totals (record_of file (k + 1)) (sums_behind 2 file (k + 1))
total_checks (Loop last count left) file k = []

-- RULES 6.1: stages 1 and 2 are judged first and second, refusal 9 third, and stage 3 fourth
abbrev pub fourth : ℕ
fourth = 4

unfoldable pub stage_three : List ℕ → List Rule
stage_three file = rows (records_of file) (λ k. block fourth (k + 1) (total_checks (due_of (state_at file k)) file k))
