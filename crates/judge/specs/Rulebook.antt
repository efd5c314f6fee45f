-- The rules of a file in the order of judgement (RULES 6.1). A record's rules stand in `rules`, those of
-- stages 1 and 2 and refusal 9 in `walk`, those of stage 3 in `totals`, of stage 4 in `links`, of stage 5 in `loops` and of stage 6 in
-- `sides`. Assumes nothing.
--   late file                  the rules behind refusal 9
--   rules_of file room         the rules of the file, where a table of `room` words is lent
--   measure_rule, layer_rule, pair_rule  what a call asks behind all stages: refusals 19, 22 and 48
--   call_rules file room last  the rules of a call that asks `last` behind all stages, and its answer:
--   call_verdict file room last the first broken one of them
--   verdict_of, sums_verdict, all_verdict  the answers of the judge, the layer sums and all sums
use Rattle.std.specs.Prelude.{◌&&◌, List, [], ◌∷◌, ◌++◌, ℕ, ◌*◌, leb}
use Rattle.verdict.specs.Rules.{Verdict, Rule, Check, check, block, first_broken}
use Rattle.walk.specs.declared.Counts.{Counts}
use Rattle.walk.specs.States.{counts_at}
use Rattle.walk.specs.Stages.{records_of, early}
use Rattle.walk.specs.Table.{table_of}
use Rattle.totals.specs.Totals.{stage_three}
use Rattle.layers.specs.Passing.{bases_in}
use Rattle.links.specs.Links.{stage_four}
use Rattle.loops.specs.Loops.{stage_five}
use Rattle.sides.specs.Sides.{stage_six}

-- RULES 6.1: turns 4 to 7, stages 3 to 6
unfoldable pub late : List ℕ → List Rule
late file =
    stage_three file
    ++ (stage_four file (table_of file) (bases_in file)
    ++ (stage_five file (table_of file) (bases_in file)
    ++ stage_six file (table_of file) (bases_in file)))

-- RULES 6.1: the stages run over the whole file, one after another
unfoldable pub rules_of : List ℕ → ℕ → List Rule
rules_of file room = early file room ++ late file

-- RULES 6.1: what a call asks behind all stages is judged eighth
abbrev pub eighth : ℕ
eighth = 8

-- ---- what a call asks behind all stages, of a file with the counts c; it names no place

-- RULES 6.10, 19: there are no fewer places for measures than areas
abbrev pub measure_rule : ℕ → Counts → Check
measure_rule places c = check 0 19 (leb c.areas places)

-- RULES 6.10, 22: the file has layer number i, 1 being its first
abbrev pub layer_rule : ℕ → Counts → Check
layer_rule i c = check 0 22 (leb 1 i && leb i c.layers)

-- RULES 6.10, 48: there are no fewer places for sums than two for each layer
abbrev pub pair_rule : ℕ → Counts → Check
pair_rule places c = check 0 48 (leb (2 * c.layers) places)

-- ---- the calls

-- RULES 6.1, 9.1, 9.2, 9.11: the rules of the file, and behind all stages what the call asks
abbrev pub call_rules : List ℕ → ℕ → (Counts → Check) → List Rule
call_rules file room last = rules_of file room ++ block eighth 0 (last (counts_at file (records_of file)) ∷ [])

-- RULES 6.1: the answer of a call is the first broken rule, or acceptance
unfoldable pub call_verdict : List ℕ → ℕ → (Counts → Check) → Verdict
call_verdict file room last = first_broken (call_rules file room last)

-- RULES 9.1: the judge, with 19 behind all stages
abbrev pub verdict_of : List ℕ → ℕ → ℕ → Verdict
verdict_of file room places = call_verdict file room (measure_rule places)

-- RULES 9.2: the layer sums, with 22
abbrev pub sums_verdict : List ℕ → ℕ → ℕ → Verdict
sums_verdict file room i = call_verdict file room (layer_rule i)

-- RULES 9.11: all sums, with 48
abbrev pub all_verdict : List ℕ → ℕ → ℕ → Verdict
all_verdict file room places = call_verdict file room (pair_rule places)
