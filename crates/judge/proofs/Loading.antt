-- The stages in a row as the code judges them, and the table that they leave. Assumes nothing.
use mathlib.Core.Bool.{true}
use mathlib.Core.List.{List, ◌++◌}
use mathlib.Core.Path.{◌≡◌, refl, sym, ◌∙◌, ap}
use Prim.Native.Nat.{ℕ, ◌<◌, ◌≤◌}
use native.Mathlib.Omega.{arith}
use lib.Dec.{leb}
use lib.ListN.{length, take, drop, length-append}
use lib.Seq.{take-append_seam}
use borrow.Author.Tests.{lt-leb, ne_eqb}
use Rattle.std.specs.Prelude.{Ok, Err}
use Rattle.verdict.specs.declared.Refusal.{Refusal}
use Rattle.verdict.specs.Rules.{Verdict, Fine, first_broken}
use Rattle.verdict.proofs.Parts.{stands, goes_on, both_fine}
use Rattle.verdict.proofs.Orders.{and_both}
use Rattle.verdict.proofs.Numbers.{between, unlike, up_to9, ten_to18, between_both, Numbered, append_numbered, broken_number}
use Rattle.walk.specs.declared.Counts.{Counts}
use Rattle.walk.specs.declared.Refused.{Refused}
use Rattle.walk.specs.States.{no_counts, counts_at}
use Rattle.walk.specs.Stages.{records_of, stage_one, stage_two, room_rule, walked_of, verdict_in, counts_in, early}
use Rattle.walk.specs.Table.{table_of, filled, filled_by, tabled_by, tabled_of}
use Rattle.walk.proofs.Walking.{counts_small}
use Rattle.walk.proofs.Judging.{records_small, walked_verdict, walked_fine}
use Rattle.walk.proofs.Room.{need_words, table_need}
use Rattle.walk.proofs.InOrder.{early_numbered}
use Rattle.totals.specs.Totals.{stage_three}
use Rattle.totals.proofs.Summing.{three_numbered}
use Rattle.layers.specs.declared.Bases.{Bases}
use Rattle.layers.specs.Passing.{bases_of, bases_in}
use Rattle.links.specs.Links.{stage_four}
use Rattle.links.proofs.InOrder.{four_numbered}
use Rattle.loops.specs.Loops.{stage_five}
use Rattle.loops.specs.Scanning.{SoundTable}
use Rattle.loops.proofs.InOrder.{five_numbered}
use Rattle.sides.specs.Sides.{stage_six}
use Rattle.sides.proofs.InOrder.{six_numbered}
use Rattle.ground.proofs.Soundness.{table_sound}
use Rattle.judge.specs.Rulebook.{late, rules_of}
use Rattle.judge.specs.Outcomes.{judged_of, table_by, table_judged}

-- behind refusal 9 every rule has a number from 10 to 18
pub late_numbered : (file : List ℕ) → Numbered ten_to18 (late file)
unfolding late
late_numbered file =
    let t : List ℕ = table_of file in
    let b : Bases = bases_in file in
    append_numbered ten_to18 (stage_three file) _ (three_numbered file)
    (append_numbered ten_to18 (stage_four file t b) _ (four_numbered file t b)
    (append_numbered ten_to18 (stage_five file t b) (stage_six file t b) (five_numbered file t b) (six_numbered file t b)))

-- so a refusal of theirs is above 9
late_above : (file : List ℕ) {r : Refusal} → Err r ≡ first_broken (late file) → 9 < r.number
late_above file {r} h = (between_both 10 18 r.number (broken_number ten_to18 (late file) (late_numbered file) (sym h))).0

-- the counts of a file are small
pub counts_few : (file : List ℕ) {c : Counts} → c ≡ counts_at file (records_of file) → (c.layers ≤ 6399936) × (c.lines ≤ 6399936)
counts_few file e =
    let u = counts_small file (records_of file) in
    let m = records_small file in
    rw e (omega (arith, u.layers, m), omega (arith, u.lines, m))

-- ---- stages 3 to 6, with the file's table t and its counts c

module _ (file : List ℕ) {t : List ℕ} {c : Counts} {b : Bases} (f : t ≡ table_of file) (g : c ≡ counts_at file (records_of file)) (h : b ≡ bases_of c) where
  bases_are : b ≡ bases_in file
  bases_are = h ∙ ap bases_of g

  pub third_broken : {r : Refusal} → Err r ≡ first_broken (stage_three file) → Err r ≡ first_broken (late file)
  unfolding late
  third_broken e = stands (stage_three file) _ refl e

  -- stage 3 is kept
  module _ (e : Fine ≡ first_broken (stage_three file)) where
    four_is : {v : Verdict} → v ≡ first_broken (stage_four file t b) → v ≡ first_broken (stage_four file (table_of file) (bases_in file))
    four_is i = rw (← f, ← bases_are) i

    pub fourth_broken : {r : Refusal} → Err r ≡ first_broken (stage_four file t b) → Err r ≡ first_broken (late file)
    unfolding late
    fourth_broken i = goes_on (stage_three file) _ refl e (stands (stage_four file (table_of file) (bases_in file)) _ refl (four_is i))

    -- and stage 4, of a file that keeps stage 2
    module _ (i : Fine ≡ first_broken (stage_four file t b)) (two : first_broken (stage_two file) ≡ Fine) where
      five_is : {v : Verdict} → (SoundTable file t b → v ≡ first_broken (stage_five file t b)) → v ≡ first_broken (stage_five file (table_of file) (bases_in file))
      five_is j = rw (← f, ← bases_are) (j (rw (f, bases_are) (table_sound file two)))

      pub fifth_broken : {r : Refusal} → (SoundTable file t b → Err r ≡ first_broken (stage_five file t b)) → Err r ≡ first_broken (late file)
      unfolding late
      fifth_broken j =
          goes_on (stage_three file) _ refl e
          (goes_on (stage_four file (table_of file) (bases_in file)) _ refl (four_is i)
          (stands (stage_five file (table_of file) (bases_in file)) _ refl (five_is j)))

      -- and stage 5: stage 6 answers v
      pub sixth_speaks : (SoundTable file t b → Fine ≡ first_broken (stage_five file t b)) → {v : Verdict} → v ≡ first_broken (stage_six file t b) → v ≡ first_broken (late file)
      unfolding late
      sixth_speaks j k =
          goes_on (stage_three file) _ refl e
          (goes_on (stage_four file (table_of file) (bases_in file)) _ refl (four_is i)
          (goes_on (stage_five file (table_of file) (bases_in file)) _ refl (five_is j) (rw (← f, ← bases_are) k)))

-- ---- an answer by the verdict v and the counts c

pub refused_by : (v : Verdict) (c : Counts) {x : Refused} → Err x ≡ tabled_by v c → v ≡ Err x.refusal
refused_by (Ok _) c e = let z : ◌≡◌ {A = ℕ} 0 1 = cc in absurd (omega arith)
refused_by (Err r) c e = cc

pub accepted_by : (v : Verdict) (c : Counts) {d : Counts} → Ok d ≡ tabled_by v c → (v ≡ Fine) × (d ≡ c)
accepted_by (Ok _) c e = (refl, cc)
accepted_by (Err r) c e = let z : ◌≡◌ {A = ℕ} 0 1 = cc in absurd (omega arith)

-- ---- all stages, behind refusal 9, where a table is lent that holds `words`

module _ (file words : List ℕ) where
  -- refused with 1 to 9: that stands
  module _ {x : Refused} (e : Err x ≡ tabled_of file (length words)) where
    early_is : first_broken (early file (length words)) ≡ Err x.refusal
    unfolding tabled_of
    early_is = refused_by _ _ e

    early_stands : first_broken (early file (length words)) ≡ first_broken (rules_of file (length words))
    unfolding rules_of
    early_stands = stands (early file (length words)) (late file) early_is refl

    pub early_judged : Err x ≡ judged_of file (length words)
    unfolding tabled_of judged_of
    early_judged = e ∙ ap (λ v. tabled_by v (counts_in (walked_of file))) early_stands

    pub early_table : {after : List ℕ} → after ≡ filled_by (first_broken (early file (length words))) file words → after ≡ table_judged file words
    unfolding table_judged
    early_table h =
        let n = x.refusal.number in
        let g = and_both (between 1 9 n) (unlike 7 n) (broken_number up_to9 (early file (length words)) (early_numbered file (length words)) early_is) in
        let b : leb n 9 ≡ true = (and_both (leb 1 n) (leb n 9) g.0).1 in
        rw (← early_stands, early_is, b) (rw early_is at h)

  -- not refused so: the counts are those of all records, and the first words of the table are the file's table
  module _ {c : Counts} (e : Ok c ≡ tabled_of file (length words)) where
    early_kept : first_broken (early file (length words)) ≡ Fine
    unfolding tabled_of
    early_kept = (accepted_by _ _ e).0

    -- what is told are the counts of stages 1 and 2
    told : c ≡ counts_in (walked_of file)
    unfolding tabled_of
    told = (accepted_by _ _ e).1

    kept : verdict_in (walked_of file) ≡ Fine
    unfolding early
    kept = walked_verdict file ∙ (both_fine (stage_one file ++ stage_two file) (room_rule file (length words)) early_kept).0

    pub two_kept : first_broken (stage_two file) ≡ Fine
    two_kept = (walked_fine file kept).1

    pub all_counts : c ≡ counts_at file (records_of file)
    all_counts = told ∙ (walked_fine file kept).2

    table_words : length (table_of file) ≡ c.words
    table_words = table_need file kept ∙ need_words file kept ∙ sym (ap (λ (c : Counts). c.words) all_counts)

    module _ {after : List ℕ} (h : after ≡ filled_by (first_broken (early file (length words))) file words) where
      table_is : after ≡ filled (table_of file) words
      table_is = rw early_kept at h

      pub words_fit : c.words ≤ length after
      words_fit = rw (table_is, length-append) (omega (arith, table_words))

      pub words_are : take c.words after ≡ table_of file
      words_are = rw (table_is, ← table_words) (take-append_seam (table_of file) (drop (length (table_of file)) words))

    -- and the later stages speak
    late_is : {v : Verdict} → v ≡ first_broken (late file) → v ≡ first_broken (rules_of file (length words))
    unfolding rules_of
    late_is k = goes_on (early file (length words)) (late file) refl (sym early_kept) k

    pub late_broken : {r : Refusal} → Err r ≡ first_broken (late file) → Err (record { refusal = r; counts = no_counts }) ≡ judged_of file (length words)
    unfolding judged_of
    late_broken {r} k =
        let above = late_above file k in
        rw (← late_is k, ne_eqb r.number 9 (λ z. omega arith))

    pub late_kept : Fine ≡ first_broken (late file) → Ok c ≡ judged_of file (length words)
    unfolding judged_of
    late_kept k = rw (← late_is k, ← told)

    pub late_table : {v : Verdict} → v ≡ first_broken (late file) → {after : List ℕ}
        → after ≡ filled_by (first_broken (early file (length words))) file words → after ≡ table_judged file words
    unfolding table_judged
    late_table {v} k h = rw (← late_is k) ((rw early_kept at h) ∙ stood v k)
      where
        stood : (v : Verdict) → v ≡ first_broken (late file) → filled (table_of file) words ≡ table_by v file words
        stood (Ok _) h = refl
        stood (Err r) h = rw (lt-leb r.number 9 (late_above file h))
