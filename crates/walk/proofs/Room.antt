-- How much room a file asks for. In a file that keeps stages 1 and 2 the need is what its H records say, and all of that has come where the
-- file ends: so the need is the words of the table. A record gives the table at most a row, and behind each A stands a loop record. Assumes
-- nothing.
use mathlib.Core.Bool.{true}
use mathlib.Core.List.{List, ◌++◌}
use mathlib.Core.Path.{◌≡◌, refl, sym, ◌∙◌, ap}
use Prim.Native.Nat.{ℕ, zero, suc, ◌+◌, ◌*◌, ◌-◌, ◌≤◌}
use native.Mathlib.Numerals.{add-one}
use native.Mathlib.Omega.{arith}
use lib.Dec.{leb}
use lib.IntN.{ℤ}
use lib.ListN.{length}
use borrow.Author.Tests.{leb-true}
use Rattle.fields.specs.Answer.{value_of}
use Rattle.fields.specs.Number.{number_at}
use Rattle.records.specs.Layout.{layout_of}
use Rattle.records.specs.View.{record_of}
use Rattle.records.specs.Columns.{span_of, area_loops}
use Rattle.std.specs.Prelude.{Err, Ok}
use Rattle.verdict.specs.Rules.{Verdict, Fine, first_broken}
use Rattle.verdict.proofs.Holding.{Holding}
use Rattle.verdict.proofs.Orders.{and_both}
use Rattle.verdict.proofs.Parts.{both_fine}
use Rattle.rules.specs.declared.Due.{Due}
use Rattle.rules.specs.declared.Due.TheVariants.{Mesh, Layer, Node, Line, Coordinates, Area, Loop}
use Rattle.permitted.specs.Permitted.{natural, size, at_least}
use Rattle.asks.specs.Asks.{area_asks}
use Rattle.rules.specs.Checks.{asks_of, asked_of, checks_of}
use Rattle.rules.proofs.Asked.{number_permitted}
use Rattle.walk.specs.declared.Counts.{Counts}
use Rattle.walk.specs.declared.State.{State}
use Rattle.walk.specs.Row.{row_length}
use Rattle.walk.specs.States.{size_in, size_at, due_of, next_for, next_of, state_at, counted_for, counts_at}
use Rattle.walk.specs.Stages.{records_of, stage_one, stage_two, walked_by, verdict_in, counts_in, walked_of, need_of}
use Rattle.walk.specs.Table.{table_of}
use Rattle.walk.proofs.Dues.{by_due, idle_end, words_counted}
use Rattle.walk.proofs.Filling.{table_length}
use Rattle.walk.proofs.Judging.{walked_fine, ended, two_holds}
use Rattle.walk.proofs.Walking.{next_entries}

-- ---- a file that keeps stages 1 and 2

module _ (file : List ℕ) (kept : verdict_in (walked_of file) ≡ Fine) where
  -- the need is what the H records say
  pub need_words : need_of file ≡ (counts_at file (records_of file)).words
  unfolding need_of
  need_words = ap (λ (c : Counts). c.words) (walked_fine file kept).2

  -- a row for each layer, and a word for each line and each area
  pub need_counted : need_of file
      ≡ row_length * (counts_at file (records_of file)).layers + ((counts_at file (records_of file)).lines + (counts_at file (records_of file)).areas)
  need_counted = need_words ∙ words_counted file (records_of file) (ended file (walked_fine file kept).1)

  -- THE TABLE HAS AS MANY WORDS AS THE NEED SAYS
  pub table_need : length (table_of file) ≡ need_of file
  table_need = table_length file ∙ sym need_counted

-- ---- the need by the records

-- a record gives at most a row
row_most : (d : Due) (c : Counts) (t : List ℕ)
    → row_length * (counted_for d c t).layers + ((counted_for d c t).lines + (counted_for d c t).areas) ≤ row_length * c.layers + (c.lines + c.areas) + row_length
row_most (Mesh last) c t = omega arith
row_most (Layer last) c t = omega arith
row_most (Node layer last) c t = omega arith
row_most (Line layer last letters) c t = omega arith
row_most (Coordinates left) c t = omega arith
row_most (Area layer last) c t = omega arith
row_most (Loop last count left) c t = omega arith

rows_most : (file : List ℕ) (k : ℕ) → row_length * (counts_at file k).layers + ((counts_at file k).lines + (counts_at file k).areas) ≤ row_length * k
unfolding counts_at
rows_most file zero = omega arith
rows_most file (suc k) = omega (arith, rows_most file k, row_most (due_of (state_at file k)) (counts_at file k) (record_of file (suc k)))

-- A FILE NEEDS AT MOST A ROW FOR EACH RECORD
pub need_most : (file : List ℕ) → need_of file ≤ row_length * records_of file
unfolding need_of walked_of
need_most file = by (first_broken (stage_one file ++ stage_two file)) refl
  where
    by : (v : Verdict) → first_broken (stage_one file ++ stage_two file) ≡ v
        → (counts_in (walked_by v (counts_at file (records_of file)))).words ≤ row_length * records_of file
    by (Ok _) e =
        let two = (both_fine (stage_one file) (stage_two file) e).1 in
        omega (arith, rows_most file (records_of file), words_counted file (records_of file) (ended file two))
    by (Err r) e = omega arith

-- ---- the areas by the records

at_least_lem : (n : ℕ) (v : ℤ) → at_least n v ≡ true → n ≤ size v
at_least_lem n v h = leb-true n (size v) (and_both (natural v) (leb n (size v)) h).1

-- an A's number 5 counts its loops
area_loops_lem : (layer last : ℕ) (t : List ℕ) → Holding (checks_of (Area layer last) t) → 1 ≤ size_at t area_loops
unfolding layout_of area_asks asks_of asked_of size_in
area_loops_lem layer last t h =
    at_least_lem 1 (value_of (number_at t (span_of area_loops).start (span_of area_loops).width))
    (number_permitted (Area layer last) t h 5 refl (at_least 1) (λ ns. refl))

-- two records for each area; but the loops of the last one may not have begun
module _ (c : Counts) (s : State) (t : List ℕ) (k : ℕ) (o : 2 * c.areas ≤ k + (s.area.loops - s.area.begun)) where
  loops_next : Holding (checks_of (due_of s) t)
      → 2 * (counted_for (due_of s) c t).areas ≤ suc k + ((next_for (due_of s) s t).area.loops - (next_for (due_of s) s t).area.begun)
  loops_next =
      by_due (λ d. Holding (checks_of d t) → 2 * (counted_for d c t).areas ≤ suc k + ((next_for d s t).area.loops - (next_for d s t).area.begun)) s
      (λ _ h. omega arith)
      (λ l h. rw (next_entries s t l) (omega arith))
      (λ _ h. omega arith)
      (λ _ h. omega arith)
      (λ _ h. omega arith)
      (λ b _ h. omega (arith, area_loops_lem s.layer.code s.layer.area t h))
      (λ i h. omega (arith, i.loops))
      (λ i h. omega (arith, i.loops))

module _ (file : List ℕ) (two : first_broken (stage_two file) ≡ Fine) where
  loops_left : (k : ℕ) → k ≤ records_of file → 2 * (counts_at file k).areas ≤ k + ((state_at file k).area.loops - (state_at file k).area.begun)
  unfolding counts_at state_at next_of
  loops_left zero l = omega arith
  loops_left (suc k) l =
      loops_next (counts_at file k) (state_at file k) (record_of file (suc k)) k (loops_left k (omega arith))
      (rw add-one at (two_holds file two k l refl))

  -- OF THE RECORDS OF A FILE THAT KEEPS STAGE 2 AT MOST HALF ARE AREAS
  pub areas_half : 2 * (counts_at file (records_of file)).areas ≤ records_of file
  areas_half =
      let n = records_of file in
      omega (arith, loops_left n (omega arith), (idle_end (state_at file n) (ended file two)).loops)
