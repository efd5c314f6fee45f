-- Refusal 9 behind stages 1 and 2, and the room that a table then has, as the code judges them. Assumes nothing.
use mathlib.Core.Bool.{false}
use mathlib.Core.List.{List, [], ◌++◌}
use mathlib.Core.Path.{◌≡◌, refl, sym, ◌∙◌, ap}
use Prim.Native.Nat.{ℕ, ◌+◌, ◌*◌, ◌≤◌, ◌<◌}
use native.Mathlib.Omega.{arith}
use lib.Dec.{leb, eqb}
use borrow.Author.Tests.{le-leb, lt-leb, not-true}
use Rattle.std.specs.Prelude.{Ok, Err}
use Rattle.verdict.specs.declared.Refusal.{Refusal}
use Rattle.verdict.specs.Rules.{Verdict, Fine, Broken, first_broken}
use Rattle.verdict.proofs.Parts.{stands, goes_on, check_none, check_kept, check_broken}
use Rattle.verdict.proofs.Numbers.{unlike, given_unlike, broken_number}
use Rattle.walk.specs.declared.Counts.{Counts}
use Rattle.walk.specs.Row.{row_length}
use Rattle.walk.specs.States.{no_counts, counts_at}
use Rattle.walk.specs.Stages.{records_of, stage_one, stage_two, verdict_in, counts_in, walked_of, third, words_of, room_rule, early}
use Rattle.walk.specs.Table.{filled, table_of, filled_by, tabled_of}
use Rattle.walk.proofs.InOrder.{stages_numbered}
use Rattle.walk.proofs.Judging.{need_is, walked_verdict, walked_fine}
use Rattle.walk.proofs.Room.{need_counted}

-- ---- a broken rule of stage 1 or 2

module _ (file : List ℕ) {r : Refusal} (e : Err r ≡ walked_of file) where
  judged : Err r ≡ first_broken (stage_one file ++ stage_two file)
  judged = ap verdict_in e ∙ walked_verdict file

  -- it stands
  pub early_broken : (room : ℕ) → Err r ≡ first_broken (early file room)
  unfolding early
  early_broken room = stands (stage_one file ++ stage_two file) (room_rule file room) refl judged

  -- and is not refusal 9
  not_nine : eqb r.number 9 ≡ false
  not_nine =
      not-true _
      (broken_number (unlike 9) (stage_one file ++ stage_two file)
      (λ a i. given_unlike 8 9 a.number (λ _ l _. absurd (omega arith)) (stages_numbered file a i)) (sym judged))

  -- so no counts are told
  pub tabled_broken : (room : ℕ) → Err (record { refusal = r; counts = no_counts }) ≡ tabled_of file room
  unfolding tabled_of
  tabled_broken room = rw (← early_broken room, not_nine)

-- ---- stages 1 and 2 are kept, with the counts c

module _ (file : List ℕ) {c : Counts} (e : Ok c ≡ walked_of file) where
  kept : verdict_in (walked_of file) ≡ Fine
  kept = sym (ap verdict_in e)

  fine : Fine ≡ first_broken (stage_one file ++ stage_two file)
  fine = sym kept ∙ walked_verdict file

  -- what is told are the counts of stages 1 and 2
  told : c ≡ counts_in (walked_of file)
  told = ap counts_in e

  -- the counts are those of all records
  pub all_counted : c ≡ counts_at file (records_of file)
  all_counted = told ∙ (walked_fine file kept).2

  words_are : c.words ≡ words_of file
  unfolding words_of
  words_are = ap (λ (x : Counts). x.words) all_counted

  module _ (room : ℕ) (l : room < c.words) where
    -- the table is too short
    pub short : Broken 9 0 0 ≡ first_broken (early file room)
    unfolding early room_rule
    short =
        goes_on (stage_one file ++ stage_two file) (room_rule file room) refl fine
        (sym (check_broken third 0 0 9 (leb (words_of file) room) [] (rw (← words_are) (lt-leb c.words room l))))

    -- the counts are told with that
    pub tabled_short : Err (record { refusal = record { number = 9; place = 0; column = 0 }; counts = c }) ≡ tabled_of file room
    unfolding tabled_of
    tabled_short = rw (← short, ← told)

  module _ (room : ℕ) (l : c.words ≤ room) where
    -- it is not
    pub long_enough : Fine ≡ first_broken (early file room)
    unfolding early room_rule
    long_enough =
        goes_on (stage_one file ++ stage_two file) (room_rule file room) refl fine
        (check_none third 0 ∙ sym (check_kept third 0 0 9 (leb (words_of file) room) [] (rw (← words_are) (le-leb c.words room l))))

    pub tabled_long : Ok c ≡ tabled_of file room
    unfolding tabled_of
    tabled_long = rw (← long_enough, ← told)

    -- then it has room for all rows, lines and areas
    pub room_enough : row_length * c.layers + (c.lines + c.areas) ≤ room
    room_enough =
        let n = need_counted file kept in
        rw all_counted (omega (arith, n, l, need_is file e))

-- ---- the table is untouched where a rule is broken, and stands in front where none is

pub untouched : (file words : List ℕ) {v : Verdict} {r : Refusal} → Err r ≡ v → words ≡ filled_by v file words
untouched file words e = rw (← e)

pub table_stands : (file words : List ℕ) {v : Verdict} {ws : List ℕ} → Fine ≡ v → ws ≡ filled (table_of file) words → ws ≡ filled_by v file words
table_stands file words e h = rw (← e) h
