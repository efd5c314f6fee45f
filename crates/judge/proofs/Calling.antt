-- What the public calls answer behind all stages, and what each lent buffer then holds. Assumes nothing.
use mathlib.Core.Bool.{Bool, true, false, cond}
use mathlib.Core.List.{List, [], ◌∷◌, ◌++◌}
use mathlib.Core.Path.{◌≡◌, refl, sym, ◌∙◌, ap}
use Prim.Native.Nat.{ℕ, ◌-◌, ◌≤◌, ◌<◌}
use native.Mathlib.Omega.{arith}
use lib.Dec.{eqb, leb}
use lib.IntN.{ℤ}
use lib.ListN.{length, take, drop, length-append}
use lib.Seq.{take-append_seam}
use Rattle.std.specs.Prelude.{Result, Ok, Err, IfOk}
use Rattle.verdict.specs.declared.Refusal.{Refusal}
use Rattle.verdict.specs.Rules.{Verdict, Fine, Broken, Check, block, first_broken, told_of}
use Rattle.verdict.proofs.Parts.{◌or_else◌, in_turn, fine_broken, both_fine, check_fine}
use Rattle.walk.specs.declared.Counts.{Counts}
use Rattle.walk.specs.declared.Refused.{Refused}
use Rattle.walk.specs.Row.{areas_word}
use Rattle.walk.specs.States.{Countable, no_counts, counts_at}
use Rattle.walk.specs.Stages.{records_of, stage_one, stage_two, room_rule, walked_of, verdict_in, counts_in, need_of, early}
use Rattle.walk.specs.Table.{table_of, filled, tabled_by}
use Rattle.walk.proofs.Walking.{countable}
use Rattle.walk.proofs.Judging.{records_small, walked_verdict, walked_fine, ended}
use Rattle.walk.proofs.Room.{need_words, table_need}
use Rattle.totals.specs.Totals.{stage_three}
use Rattle.layers.specs.declared.Bases.{Bases}
use Rattle.layers.specs.declared.Layer.{Layer}
use Rattle.layers.specs.Naming.{words_before, layer_in}
use Rattle.layers.specs.Passing.{bases_of, bases_in, layer_of}
use Rattle.layers.proofs.Sections.{areas}
use Rattle.layers.proofs.Laid.{all_came}
use Rattle.links.specs.Links.{stage_four}
use Rattle.loops.specs.Loops.{stage_five}
use Rattle.ground.specs.Layers.{areas_sum, outside_sum, measures_to}
use Rattle.ground.proofs.Kept.{Passed}
use Rattle.ground.proofs.Soundness.{table_sound}
use Rattle.ground.proofs.Limits.{area_small, areas_small, outside_small}
use Rattle.judge.specs.declared.Outcome.{Outcome}
use Rattle.judge.specs.Rulebook.{late, rules_of, eighth, layer_rule, call_verdict, sums_verdict}
use Rattle.judge.specs.Outcomes.{judged_of, table_by, table_judged, asked_by, told_behind, outcome_told, outcome_by, outcome_behind, table_behind, lent_by}
use Rattle.judge.specs.Outcomes.{measures_of, layer_told, sums_told, sums_by, sums_of, pairs_to, all_sums_of}
use Rattle.judge.specs.Measuring.{outside_at, Summable, SummableTo}
use Rattle.judge.proofs.Loading.{counts_few, refused_by, accepted_by}

-- ---- a file that keeps all stages

module _ (file : List ℕ) (room : ℕ) (q : first_broken (rules_of file room) ≡ Fine) where
  walked_kept : verdict_in (walked_of file) ≡ Fine
  unfolding rules_of early
  walked_kept = walked_verdict file ∙ (both_fine (stage_one file ++ stage_two file) (room_rule file room) (both_fine (early file room) (late file) q).0).0

  late_kept : first_broken (late file) ≡ Fine
  unfolding rules_of
  late_kept = (both_fine (early file room) (late file) q).1

  pub passed : Passed file
  unfolding late
  passed =
      let four = (both_fine (stage_three file) _ late_kept).1 in
      let five = (both_fine (stage_four file (table_of file) (bases_in file)) _ four).1 in
      let six = both_fine (stage_five file (table_of file) (bases_in file)) _ five in
      record { two = (walked_fine file walked_kept).1; four = (both_fine (stage_four file (table_of file) (bases_in file)) _ four).0; five = six.0; six = six.1 }

-- a file that a call accepts keeps them, and what the call asks behind them
module _ (file : List ℕ) (room : ℕ) (last : Counts → Check) (h : call_verdict file room last ≡ Fine) where
  both_kept : (first_broken (rules_of file room) ≡ Fine) × (first_broken (block eighth 0 (last (counts_at file (records_of file)) ∷ [])) ≡ Fine)
  unfolding call_verdict
  both_kept = both_fine (rules_of file room) _ h

  pub rules_fine : first_broken (rules_of file room) ≡ Fine
  rules_fine = both_kept.0

  pub last_fine : (last (counts_at file (records_of file))).holds ≡ true
  last_fine = check_fine eighth 0 _ _ _ both_kept.1

-- ---- a check alone

one_number : (x : Check) {r : Refusal} → Err r ≡ first_broken (block eighth 0 (x ∷ [])) → r.number ≡ x.number
unfolding first_broken block
one_number x {r} = by x.holds
  where
    by : (b : Bool) → Err r ≡ cond b Fine (Broken x.number 0 x.column) → r.number ≡ x.number
    by true e = fine_broken refl (sym e)
    by false e = ap (λ v. (told_of v).number) e

-- ---- all stages are kept, and the answer is the counts c

module _ (file : List ℕ) (room : ℕ) {c : Counts} (e : Ok c ≡ judged_of file room) where
  judged_fine : first_broken (rules_of file room) ≡ Fine
  unfolding judged_of
  judged_fine = (accepted_by _ _ e).0

  -- they are those of stages 1 and 2, which are kept: so those of all records
  told : c ≡ counts_in (walked_of file)
  unfolding judged_of
  told = (accepted_by _ _ e).1

  pub judged_counts : c ≡ counts_at file (records_of file)
  judged_counts = told ∙ (walked_fine file (walked_kept file room judged_fine)).2

  judged_passed : Passed file
  judged_passed = passed file room judged_fine

  table_words : length (table_of file) ≡ c.words
  table_words =
      let kept = walked_kept file room judged_fine in
      table_need file kept ∙ need_words file kept ∙ sym (ap (λ (c : Counts). c.words) judged_counts)

  module _ (words : List ℕ) {after : List ℕ} (m : room ≡ length words) (h : after ≡ table_judged file words) where
    table_stands : after ≡ filled (table_of file) words
    unfolding table_judged
    table_stands = rw (← m, judged_fine) at h

    pub judged_fit : c.words ≤ length after
    judged_fit = rw (table_stands, length-append) (omega (arith, table_words))

    pub judged_words : take c.words after ≡ table_of file
    judged_words = rw (table_stands, ← table_words) (take-append_seam (table_of file) (drop (length (table_of file)) words))

  -- every layer can be added up
  summable : (i : ℕ) → i < c.layers → Summable file (table_of file) (layer_of file i)
  unfolding outside_at
  summable i m =
      let j : i < (counts_at file (records_of file)).layers = rw judged_counts at m in
      record {
        sound = (table_sound file judged_passed.two).layers i j;
        each = λ a o n. record { fits = area_small file judged_passed i j a o n };
        areas = areas_small file judged_passed i j;
        outside = outside_small file judged_passed i j;
      }

  -- what the code hands over: the file's table ws, and where its lines and areas begin
  module _ {ws : List ℕ} {b : Bases} (f : ws ≡ table_of file) (g : b ≡ bases_of c) where
    pub summable_to : SummableTo file ws b c.layers
    summable_to = rw (f, g, judged_counts) (record {
      few = (counts_few file refl).0;
      each = λ i m. summable i (rw judged_counts m);
    })

    pub areas_fit : words_before ws areas_word c.layers ≡ c.areas
    areas_fit = rw (f, judged_counts) (all_came areas file (ended file judged_passed.two))

    pub measures_are : measures_to file ws b c.layers ≡ measures_of file
    unfolding measures_of
    measures_are = rw (f, g, judged_counts)

    pub pairs_are : pairs_to file ws b c.layers ≡ all_sums_of file
    unfolding all_sums_of
    pairs_are = rw (f, g, judged_counts)

    -- layer number n
    module _ (n : ℕ) {l : Layer} (k : l ≡ layer_in ws b (n - 1)) where
      layer_is : l ≡ layer_of file (n - 1)
      layer_is = rw (k, f, g, judged_counts)

      pub layer_summable : 1 ≤ n → n ≤ c.layers → Summable file ws l
      layer_summable x y = rw (layer_is, f) (summable (n - 1) (omega arith))

      pub layer_sums_are : {s : ℤ × ℤ} → ◌≡◌ {A = ℤ × ℤ} s (areas_sum file ws l, outside_sum file ws l)
          → Ok s ≡ layer_told (Ok c) file n
      layer_sums_are h = rw (h, layer_is, f)

-- ---- what a call finds that is lent a table of `room` words and asks `last` of the counts behind all stages

module _ (file : List ℕ) (room : ℕ) (last : Counts → Check) where
  -- the counts of a file that it accepts are those of all records
  counts_kept : call_verdict file room last ≡ Fine → counts_in (walked_of file) ≡ counts_at file (records_of file)
  counts_kept h = (walked_fine file (walked_kept file room (rules_fine file room last h))).2

  -- a refusal of the stages stands; behind none what is asked speaks, of the counts of all records
  all_asked : call_verdict file room last ≡ asked_by (first_broken (rules_of file room)) (last (counts_at file (records_of file)))
  unfolding call_verdict
  all_asked = in_turn (rules_of file room) _ ∙ by (first_broken (rules_of file room))
    where
      by : (v : Verdict) → v or_else first_broken (block eighth 0 (last (counts_at file (records_of file)) ∷ [])) ≡ asked_by v (last (counts_at file (records_of file)))
      by (Ok _) = refl
      by (Err r) = refl

  -- where none refuses, these are the counts of stages 1 and 2
  call_is : call_verdict file room last ≡ asked_by (first_broken (rules_of file room)) (last (counts_in (walked_of file)))
  call_is = all_asked ∙ by (first_broken (rules_of file room)) refl
    where
      by : (v : Verdict) → first_broken (rules_of file room) ≡ v → asked_by v (last (counts_at file (records_of file))) ≡ asked_by v (last (counts_in (walked_of file)))
      by (Ok _) h = let e = (walked_fine file (walked_kept file room h)).2 in rw e
      by (Err r) h = refl

  -- the answer v of the call
  module _ {v : Verdict} (a : v ≡ asked_by (first_broken (rules_of file room)) (last (counts_in (walked_of file)))) where
    asked_is : v ≡ call_verdict file room last
    asked_is = a ∙ sym call_is

    -- what the call finds has this verdict
    pub call_told : tabled_by v (counts_in (walked_of file)) ≡ told_behind file room last
    unfolding told_behind
    call_told = rw asked_is

    -- accepted, the counts are those of all records; refused, they are not told
    pub outcome_is : {o : Outcome} → o ≡ outcome_by v (counts_in (walked_of file)) (records_of file) (counts_in (walked_of file)).words
        → o ≡ outcome_behind file room last
    unfolding outcome_behind need_of
    outcome_is h = rw (← asked_is) (h ∙ by v asked_is)
      where
        by : (u : Verdict) → u ≡ call_verdict file room last
            → outcome_by u (counts_in (walked_of file)) (records_of file) (counts_in (walked_of file)).words
            ≡ outcome_by u (counts_at file (records_of file)) (records_of file) (need_of file)
        by (Ok _) q = let e = counts_kept (sym q) in rw e
        by (Err r) q = refl

    -- refused, a lent buffer is as it was
    pub lent_refused : {r : Refusal} → v ≡ Err r → (zs ds : List ℤ) → ds ≡ lent_by (call_verdict file room last) zs ds
    lent_refused q zs ds = rw (← asked_is, q)

    -- accepted, the figures zs stand in it
    pub lent_kept : v ≡ Fine → (zs ds : List ℤ) {after : List ℤ} → after ≡ filled zs ds → after ≡ lent_by (call_verdict file room last) zs ds
    lent_kept q zs ds h = rw (← asked_is, q) h

  -- the counts that are told are those of all records
  pub told_counts : {c : Counts} → Ok c ≡ told_behind file room last → c ≡ counts_at file (records_of file)
  unfolding told_behind
  told_counts e = let a = accepted_by _ _ e in a.1 ∙ counts_kept a.0

  -- so they can be told
  pub told_countable : {t : Result Counts Refused} → t ≡ told_behind file room last → IfOk t Countable
  told_countable {t = Ok c} e = rw (told_counts e) (countable file (records_of file) (records_small file))
  told_countable {t = Err x} e = tt

  -- what is found, by refusal numbers: of the counts that are told with 9 the words are
  pub outcome_found : {t : Result Counts Refused} → t ≡ told_behind file room last → outcome_told t (records_of file) ≡ outcome_behind file room last
  unfolding told_behind
  outcome_found e = rw e (outcome_is call_is (by (call_verdict file room last)))
    where
      words : (c : Counts) (nine : Bool) → (cond nine c no_counts).words ≡ cond nine c.words 0
      words c true = refl
      words c false = refl

      by : (v : Verdict)
          → outcome_told (tabled_by v (counts_in (walked_of file))) (records_of file)
          ≡ outcome_by v (counts_in (walked_of file)) (records_of file) (counts_in (walked_of file)).words
      by (Ok _) = refl
      by (Err r) = let e = words (counts_in (walked_of file)) (eqb r.number 9) in rw e

  -- all stages refuse
  module _ {x : Refused} (e : Err x ≡ judged_of file room) where
    rules_broken : first_broken (rules_of file room) ≡ Err x.refusal
    unfolding judged_of
    rules_broken = refused_by _ _ e

    -- then nothing is asked, and this is the call's answer
    pub stages_are : Err x.refusal ≡ asked_by (first_broken (rules_of file room)) (last (counts_in (walked_of file)))
    stages_are = rw rules_broken

    pub stages_told : Err x ≡ told_behind file room last
    unfolding judged_of
    stages_told = e ∙ rw rules_broken (call_told stages_are)

  -- they give the counts
  module _ {c : Counts} (e : Ok c ≡ judged_of file room) where
    -- then the answer to what is asked is the call's answer
    pub asked_are : {v : Verdict} → v ≡ first_broken (block eighth 0 (last c ∷ []))
        → v ≡ asked_by (first_broken (rules_of file room)) (last (counts_in (walked_of file)))
    asked_are a = rw (judged_fine file room e, ← told file room e) a

    -- what is asked is not so: a number but 9
    pub asked_told : {r : Refusal} → Err r ≡ first_broken (block eighth 0 (last c ∷ [])) → eqb (last c).number 9 ≡ false
        → Err (record { refusal = r; counts = no_counts }) ≡ told_behind file room last
    asked_told {r} a m =
        let n : eqb r.number 9 ≡ false = rw (one_number (last c) a) m in
        rw n at (call_told (asked_are a))

    -- it is so
    module _ (a : Fine ≡ first_broken (block eighth 0 (last c ∷ []))) where
      pub last_kept : (last c).holds ≡ true
      last_kept = check_fine eighth 0 _ _ _ (sym a)

      pub kept_told : Ok c ≡ told_behind file room last
      kept_told = rw (told file room e) (call_told (asked_are a))

-- a refusal above 9 leaves the table where it stands
asked_table : (file words : List ℕ) (v : Verdict) (x : Check) → leb x.number 9 ≡ false → table_by v file words ≡ table_by (asked_by v x) file words
unfolding first_broken block
asked_table file words (Ok _) x h = by x.holds
  where
    by : (b : Bool) → filled (table_of file) words ≡ table_by (cond b Fine (Broken x.number 0 x.column)) file words
    by true = refl
    by false = rw h
asked_table file words (Err r) x h = refl

-- so the table that stands behind the stages is the one behind the call, where what is asked, x, has a number above 9
asked_stands : (file words : List ℕ) (last : Counts → Check) (x : Check) → call_verdict file (length words) last ≡ asked_by (first_broken (rules_of file (length words))) x
    → leb x.number 9 ≡ false → {after : List ℕ} → after ≡ table_judged file words → after ≡ table_behind file last words
unfolding table_judged table_behind
asked_stands file words last x a m h = h ∙ rw a (asked_table file words (first_broken (rules_of file (length words))) x m)

-- it is asked of the counts of stages 1 and 2
pub table_told : (file words : List ℕ) (last : Counts → Check) → leb (last (counts_in (walked_of file))).number 9 ≡ false
    → {after : List ℕ} → after ≡ table_judged file words → after ≡ table_behind file last words
table_told file words last = asked_stands file words last _ (call_is file (length words) last)

-- or of the counts of all records
pub table_found : (file words : List ℕ) (last : Counts → Check) → leb (last (counts_at file (records_of file))).number 9 ≡ false
    → {after : List ℕ} → after ≡ table_judged file words → after ≡ table_behind file last words
table_found file words last = asked_stands file words last _ (all_asked file (length words) last)

-- what the layer sums answer
pub sums_are : (file : List ℕ) (room i : ℕ) {t : Result (ℤ × ℤ) Refused} → t ≡ layer_told (told_behind file room (layer_rule i)) file i → sums_told t ≡ sums_of file room i
unfolding told_behind sums_of
sums_are file room i e = rw e (by (sums_verdict file room i))
  where
    by : (v : Verdict) → sums_told (layer_told (tabled_by v (counts_in (walked_of file))) file i) ≡ sums_by v file i
    by (Ok _) = refl
    by (Err r) = refl
