-- What a call of the judge answers, and what each lent buffer holds afterwards (RULES 8.3 to 8.5, 9.1, 9.2, 9.11). Assumes nothing.
--   judged_of, table_judged what all stages say of a file, and what the table holds behind them; asked_by: what a call then asks
--   outcome_by v c n r    the verdict v by refusal numbers, with the need n where it is told, and the counts c and r records of acceptance
--   told_behind file room last  what a call that asks `last` behind all stages finds: the counts, or the refusal; layer_told: with a layer's sums
--   outcome_told, sums_told  such a finding by refusal numbers
--   outcome_behind, table_behind  what is told by a call that asks `last` behind all stages, and the table that held the words ws behind it
--   lent_by v zs ds        the buffer that held ds, where figures zs go to it on acceptance
--   outcome_of file room p the judge's answer to a file, a table of `room` words and p places for measures
--   table_after, measures_after  the table, and the measures that held ms, behind it
--   sums_of file room i    the answer of the layer sums; table_after_sums: the table behind it
--   outcome_of_all, table_after_all, sums_after  of all sums: the answer, the table, and the sums that held ss
use Rattle.std.specs.Prelude.{cond, List, [], ◌∷◌, ◌++◌, ℕ, zero, suc, ◌-◌, eqb, leb, ℤ, pos, length, Result, Ok, Err}
use Rattle.verdict.specs.Rules.{Verdict, Fine, Check, block, told_of, first_broken}
use Rattle.walk.specs.declared.Counts.{Counts}
use Rattle.walk.specs.declared.Refused.{Refused}
use Rattle.walk.specs.States.{no_counts, counts_at}
use Rattle.walk.specs.Stages.{records_of, counts_in, walked_of, need_of}
use Rattle.walk.specs.Table.{table_of, filled, tabled_by}
use Rattle.layers.specs.declared.Bases.{Bases}
use Rattle.layers.specs.declared.Layer.{Layer}
use Rattle.layers.specs.Naming.{layer_in}
use Rattle.layers.specs.Passing.{bases_in, layer_of}
use Rattle.ground.specs.Layers.{areas_sum, outside_sum, measures_to}
use Rattle.judge.specs.declared.Outcome.{Outcome}
use Rattle.judge.specs.declared.Sums.{Sums}
use Rattle.judge.specs.Rulebook.{rules_of, eighth, measure_rule, layer_rule, pair_rule, call_verdict, verdict_of, sums_verdict, all_verdict}

-- ---- all stages

-- RULES 6.1: what all stages say: the counts of a file that keeps them, or the refusal, with the counts where it is 9
unfoldable pub judged_of : List ℕ → ℕ → Result Counts Refused
judged_of file room = tabled_by (first_broken (rules_of file room)) (counts_in (walked_of file))

-- RULES 8.3: refused with 1 to 9, all words are as they were; refused later, or accepted, the table stands in front, the rest is as it was
abbrev pub table_by : Verdict → List ℕ → List ℕ → List ℕ
table_by (Ok _) file words = filled (table_of file) words
table_by (Err r) file words = cond (leb r.number 9) words (filled (table_of file) words)

-- RULES 8.3: the table behind all stages
unfoldable pub table_judged : List ℕ → List ℕ → List ℕ
table_judged file words = table_by (first_broken (rules_of file (length words))) file words

-- RULES 6.1: a refusal of the stages stands, and behind them a call asks `last`
abbrev pub asked_by : Verdict → Check → Verdict
asked_by (Ok _) last = first_broken (block eighth 0 (last ∷ []))
asked_by (Err r) last = Err r

-- ---- every call

-- RULES 9.1: the need with refusal 9, 0 in every other answer
abbrev pub need_told : Verdict → ℕ → ℕ
need_told v n = cond (eqb (told_of v).number 9) n 0

abbrev pub outcome_with : Verdict → Counts → ℕ → ℕ → Outcome
outcome_with v c records n = record {
  number = (told_of v).number;
  place = (told_of v).place;
  column = (told_of v).column;
  meshes = c.meshes;
  layers = c.layers;
  nodes = c.nodes;
  lines = c.lines;
  areas = c.areas;
  records = records;
  need = need_told v n;
}

-- RULES 9.1: the counts are 0 if refused
abbrev pub outcome_by : Verdict → Counts → ℕ → ℕ → Outcome
outcome_by (Ok _) c records n = outcome_with Fine c records n
outcome_by (Err r) c records n = outcome_with (Err r) no_counts 0 n

-- RULES 6.1, 9.1: behind all stages and what a call asks, the counts of acceptance, or the refusal, with the counts where it is 9
unfoldable pub told_behind : List ℕ → ℕ → (Counts → Check) → Result Counts Refused
told_behind file room last = tabled_by (call_verdict file room last) (counts_in (walked_of file))

-- RULES 9.1: this by refusal numbers, with r records of acceptance; the counts are 0 if refused, and the need is the words that are told with 9
abbrev pub outcome_told : Result Counts Refused → ℕ → Outcome
outcome_told (Ok c) r = outcome_by Fine c r 0
outcome_told (Err x) r = record {
  number = x.refusal.number;
  place = x.refusal.place;
  column = x.refusal.column;
  meshes = 0;
  layers = 0;
  nodes = 0;
  lines = 0;
  areas = 0;
  records = 0;
  need = x.counts.words;
}

-- RULES 9.1, 9.11: counted over the whole file
unfoldable pub outcome_behind : List ℕ → ℕ → (Counts → Check) → Outcome
outcome_behind file room last = outcome_by (call_verdict file room last) (counts_at file (records_of file)) (records_of file) (need_of file)

-- RULES 8.3: the table behind all stages and what the call asks
unfoldable pub table_behind : List ℕ → (Counts → Check) → List ℕ → List ℕ
table_behind file last words = table_by (call_verdict file (length words) last) file words

-- RULES 8.4, 8.5: on acceptance only; otherwise, and behind them, the buffer is as it was
abbrev pub lent_by : Verdict → List ℤ → List ℤ → List ℤ
lent_by (Ok _) zs ds = filled zs ds
lent_by (Err r) zs ds = ds

-- ---- the judge

-- RULES 9.1: the judge's answer, and the table behind it
abbrev pub outcome_of : List ℕ → ℕ → ℕ → Outcome
outcome_of file room places = outcome_behind file room (measure_rule places)

abbrev pub table_after : List ℕ → ℕ → List ℕ → List ℕ
table_after file places words = table_behind file (measure_rule places) words

-- RULES 8.4: the file's measures, one for each area in file order
unfoldable pub measures_of : List ℕ → List ℤ
measures_of file = measures_to file (table_of file) (bases_in file) (counts_at file (records_of file)).layers

-- RULES 8.4, 9.1: the measures behind the judge
unfoldable pub measures_after : List ℕ → ℕ → List ℤ → List ℤ
measures_after file room ms = lent_by (verdict_of file room (length ms)) (measures_of file) ms

-- ---- the layer sums

abbrev pub sums_with : Verdict → ℤ → ℤ → Sums
sums_with v areas outside = record { number = (told_of v).number; place = (told_of v).place; column = (told_of v).column; areas = areas; outside = outside }

-- RULES 9.2: the two sums of layer number i, 1 for the file's first; both 0 if refused
abbrev pub sums_by : Verdict → List ℕ → ℕ → Sums
sums_by (Ok _) file i =
    sums_with Fine (areas_sum file (table_of file) (layer_of file (i - 1))) (outside_sum file (table_of file) (layer_of file (i - 1)))
sums_by (Err r) file i = sums_with (Err r) (pos 0) (pos 0)

-- RULES 9.2: the two sums of layer number i in place of the counts of acceptance
abbrev pub layer_told : Result Counts Refused → List ℕ → ℕ → Result (ℤ × ℤ) Refused
layer_told (Ok c) file i = Ok (areas_sum file (table_of file) (layer_of file (i - 1)), outside_sum file (table_of file) (layer_of file (i - 1)))
layer_told (Err x) file i = Err x

-- RULES 9.2: this by refusal numbers; both are 0 if refused
abbrev pub sums_told : Result (ℤ × ℤ) Refused → Sums
sums_told (Ok s) = sums_with Fine s.0 s.1
sums_told (Err x) = sums_with (Err x.refusal) (pos 0) (pos 0)

-- RULES 9.2: the answer of the layer sums
unfoldable pub sums_of : List ℕ → ℕ → ℕ → Sums
sums_of file room i = sums_by (sums_verdict file room i) file i

-- RULES 8.3, 9.2: the table behind the layer sums
abbrev pub table_after_sums : List ℕ → ℕ → List ℕ → List ℕ
table_after_sums file i words = table_behind file (layer_rule i) words

-- ---- all sums

-- RULES 9.11: the answer of all sums, and the table behind it
abbrev pub outcome_of_all : List ℕ → ℕ → ℕ → Outcome
outcome_of_all file room places = outcome_behind file room (pair_rule places)

abbrev pub table_after_all : List ℕ → ℕ → List ℕ → List ℕ
table_after_all file places words = table_behind file (pair_rule places) words

-- RULES 8.5: a layer's areas' sum and its outside sum
abbrev pub pair_of : List ℕ → List ℕ → Layer → List ℤ
pair_of file t l = areas_sum file t l ∷ outside_sum file t l ∷ []

-- RULES 8.5: two for each of the first n layers, in file order
unfoldable pub pairs_to : List ℕ → List ℕ → Bases → ℕ → List ℤ
pairs_to file t b zero = []
pairs_to file t b (suc n) = pairs_to file t b n ++ pair_of file t (layer_in t b n)

-- RULES 8.5: the sums of all layers of the file
unfoldable pub all_sums_of : List ℕ → List ℤ
all_sums_of file = pairs_to file (table_of file) (bases_in file) (counts_at file (records_of file)).layers

-- RULES 8.5, 9.11: the sums behind the call
unfoldable pub sums_after : List ℕ → ℕ → List ℤ → List ℤ
sums_after file room ss = lent_by (all_verdict file room (length ss)) (all_sums_of file) ss
