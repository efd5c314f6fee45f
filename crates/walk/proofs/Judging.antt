-- Stages 1 and 2 as the code judges them, record by record, and what a file that keeps them is. Assumes nothing.
use mathlib.Core.Bool.{Bool, true, false, cond, ◌&&◌}
use mathlib.Core.List.{List, ◌++◌}
use mathlib.Core.Path.{◌≡◌, refl, ◌∙◌, ap}
use Prim.Native.Nat.{ℕ, ◌+◌, ◌*◌, ◌/◌, ◌%◌, ◌<◌, ◌≤◌}
use native.Mathlib.Omega.{arith}
use borrow.Author.Tests.{le-ltb, ltb-false, leb-true, eqb-true}
use lib.Dec.{leb, ltb, eqb, lit≤}
use lib.ListN.{length}
use Rattle.std.specs.Prelude.{Result, Ok, Err}
use Rattle.verdict.specs.declared.Refusal.{Refusal}
use Rattle.verdict.specs.Rules.{Verdict, Fine, Rule, block, rows, first_broken}
use Rattle.verdict.proofs.Parts.{fine_broken, in_turn, both_fine, stands, goes_on, rows_stop, rows_done, check_fine}
use Rattle.verdict.proofs.Holding.{row_fine, Holding, all_hold}
use Rattle.verdict.proofs.Orders.{and_both}
use Rattle.records.specs.View.{record_of}
use Rattle.rules.specs.declared.Due.{Due}
use Rattle.rules.specs.Checks.{checks_of}
use Rattle.walk.specs.declared.State.{State}
use Rattle.walk.specs.declared.Counts.{Counts}
use Rattle.walk.specs.States.{due_of, state_at, counts_at}
use Rattle.walk.specs.Stages.{most_records, records_of, end_checks, length_checks, stage_one, may_end, last_checks, stage_two, walked_by, verdict_in, counts_in, walked_of, need_of}

-- ---- stage 1

records_by : (n : ℕ) (t : Bool) → ltb most_records n ≡ t → cond t most_records n ≤ 6399936
records_by n true e = lit≤ tt
records_by n false e = ltb-false most_records n e

-- no more records are judged than there may be
pub records_small : (file : List ℕ) → records_of file ≤ 6399936
unfolding records_of
records_small file = records_by (length file / 74) (ltb most_records (length file / 74)) refl

-- the rules of record k + 1
abbrev pub ends_of : List ℕ → ℕ → List Rule
ends_of file k = block 1 (k + 1) (end_checks (record_of file (k + 1)))

-- the answer v to the line end of t, which is record k + 1
pub end_is : (file : List ℕ) (k : ℕ) {t : List ℕ} {v : Verdict} → t ≡ record_of file (k + 1)
    → v ≡ first_broken (block 1 (k + 1) (end_checks t)) → v ≡ first_broken (ends_of file k)
end_is file k e h = rw (← e) h

module _ (file : List ℕ) {n : ℕ} (m : n ≡ records_of file) where
  -- it is broken and is returned
  pub one_stops : (k : ℕ) {v : Verdict} {r : Refusal} → v ≡ Err r → v ≡ first_broken (ends_of file k)
      → first_broken (rows k (ends_of file)) ≡ Fine → k < n → v ≡ first_broken (stage_one file)
  unfolding stage_one
  one_stops k q e h l = stands (rows (records_of file) (ends_of file)) _ q (rows_stop (ends_of file) (records_of file) k (rw (← m) l) h e q)

  -- all line ends are fine; v is the answer to the length
  pub one_done : (k : ℕ) {v : Verdict} → v ≡ first_broken (block 1 (n + 1) (length_checks (length file)))
      → first_broken (rows k (ends_of file)) ≡ Fine → k ≤ n → n ≤ k → v ≡ first_broken (stage_one file)
  unfolding stage_one
  one_done k q h l g =
      let f = rows_done (ends_of file) n k l g h in
      goes_on (rows (records_of file) (ends_of file)) _ refl (rw m at f) (rw m at q)

-- ---- stage 2

-- the rules of record k + 1, as it is due
abbrev pub stage_two_rules : List ℕ → ℕ → List Rule
stage_two_rules file k = block 2 (k + 1) (checks_of (due_of (state_at file k)) (record_of file (k + 1)))

-- the answer v to t, which is record k + 1, due as d
pub rule_is : (file : List ℕ) (k : ℕ) {s : State} {d : Due} {t : List ℕ} {v : Verdict} → s ≡ state_at file k → d ≡ due_of s
    → t ≡ record_of file (k + 1) → v ≡ first_broken (block 2 (k + 1) (checks_of d t)) → v ≡ first_broken (stage_two_rules file k)
rule_is file k p q e h = rw (← p, ← q, ← e) h

module _ (file : List ℕ) {n : ℕ} (m : n ≡ records_of file) where
  -- it is broken and is returned
  pub two_stops : (k : ℕ) {v : Verdict} {r : Refusal} → v ≡ Err r → v ≡ first_broken (stage_two_rules file k)
      → first_broken (rows k (stage_two_rules file)) ≡ Fine → k < n → v ≡ first_broken (stage_two file)
  unfolding stage_two
  two_stops k q e h l = stands (rows (records_of file) (stage_two_rules file)) _ q (rows_stop (stage_two_rules file) (records_of file) k (rw (← m) l) h e q)

  -- all records are fine; v is the answer to the end, where d is due
  pub two_done : (k : ℕ) {s : State} {d : Due} {v : Verdict} → s ≡ state_at file k → d ≡ due_of s → v ≡ first_broken (block 2 (n + 1) (last_checks d))
      → first_broken (rows k (stage_two_rules file)) ≡ Fine → k ≤ n → n ≤ k → v ≡ first_broken (stage_two file)
  unfolding stage_two
  two_done k {s} {d} e p q h l g =
      let z : k ≡ records_of file = by_bounds l g ∙ m in
      let f = rows_done (stage_two_rules file) n k l g h in
      let y : d ≡ due_of (state_at file (records_of file)) = p ∙ ap due_of (e ∙ ap (state_at file) z) in
      goes_on (rows (records_of file) (stage_two_rules file)) _ refl (rw m at f) (rw (← y) (rw m at q))
    where
      by_bounds : {a b : ℕ} → a ≤ b → b ≤ a → a ≡ b
      by_bounds l g = omega arith

  -- the counts of all records
  pub counts_done : (k : ℕ) {c : Counts} → c ≡ counts_at file k → k ≤ n → n ≤ k → c ≡ counts_at file (records_of file)
  counts_done k e l g = let z : k ≡ n = omega arith in e ∙ ap (counts_at file) (z ∙ m)

-- ---- both stages

-- the answer to a verdict u: a refusal; where it is fine, the counts
pub walked_broken : {u : Verdict} {r : Refusal} (c : Counts) → Err r ≡ u → Err r ≡ walked_by u c
walked_broken c e = rw (← e)

pub walked_kept : {u : Verdict} {c d : Counts} → Fine ≡ u → d ≡ c → Ok d ≡ walked_by u c
walked_kept e f = rw (← e, ← f)

-- the answer where stage 1 is broken; where it is fine, and stage 2 answers
pub walked_first : (file : List ℕ) {r : Refusal} → Err r ≡ first_broken (stage_one file) → Err r ≡ walked_of file
unfolding walked_of
walked_first file e = walked_broken (counts_at file (records_of file)) (stands (stage_one file) (stage_two file) refl e)

pub walked_second : (file : List ℕ) {w : Result Counts Refusal} → Fine ≡ first_broken (stage_one file)
    → w ≡ walked_by (first_broken (stage_two file)) (counts_at file (records_of file)) → w ≡ walked_of file
unfolding walked_of
walked_second file e z = rw (in_turn (stage_one file) (stage_two file), ← e) z

-- the need is the answer's words
pub need_is : (file : List ℕ) {w : Result Counts Refusal} → w ≡ walked_of file → (counts_in w).words ≡ need_of file
unfolding need_of
need_is file e = ap (λ (x : Result Counts Refusal). (counts_in x).words) e

-- the answer is the first broken rule of both
pub walked_verdict : (file : List ℕ) → verdict_in (walked_of file) ≡ first_broken (stage_one file ++ stage_two file)
unfolding walked_of
walked_verdict file = by (first_broken (stage_one file ++ stage_two file)) (counts_at file (records_of file))
  where
    by : (v : Verdict) (c : Counts) → verdict_in (walked_by v c) ≡ v
    by (Ok _) c = refl
    by (Err r) c = refl

-- ---- a file that keeps them

verdict_by : (v : Verdict) (c : Counts) → verdict_in (walked_by v c) ≡ Fine → (v ≡ Fine) × (counts_in (walked_by v c) ≡ c)
verdict_by (Ok _) c h = (refl, refl)
verdict_by (Err r) c h = fine_broken h refl

-- both stages are kept, and the counts are those of all records
pub walked_fine : (file : List ℕ) → verdict_in (walked_of file) ≡ Fine
    → (first_broken (stage_one file) ≡ Fine) × (first_broken (stage_two file) ≡ Fine) × (counts_in (walked_of file) ≡ counts_at file (records_of file))
unfolding walked_of
walked_fine file h =
    let g = verdict_by (first_broken (stage_one file ++ stage_two file)) (counts_at file (records_of file)) h in
    let b = both_fine (stage_one file) (stage_two file) g.0 in
    (b.0, b.1, g.1)

-- whole records, at least one and no more than there may be
pub record Whole (file : List ℕ) : Type 0 where
  pub all : records_of file ≡ length file / 74
  pub some : 1 ≤ records_of file
  pub most : records_of file ≤ 6399936
  pub bytes : length file ≡ 74 * records_of file

whole_by : (file : List ℕ) → 1 ≤ length file / 74 → length file / 74 ≤ 6399936 → length file % 74 ≡ 0 → Whole file
unfolding records_of
whole_by file p q z =
    let e : records_of file ≡ length file / 74 = rw (le-ltb 6399936 (length file / 74) q) in
    record { all = e; some = rw e p; most = rw e q; bytes = omega (arith, e) }

-- a file that keeps stage 1 is whole records
pub whole : (file : List ℕ) → first_broken (stage_one file) ≡ Fine → Whole file
unfolding stage_one length_checks
whole file h =
    let n = length file in
    let b = both_fine (rows (records_of file) (ends_of file)) (block 1 (records_of file + 1) (length_checks n)) h in
    let t = check_fine 1 (records_of file + 1) 1 1 (leb 1 (n / 74) && (leb (n / 74) most_records && eqb (n % 74) 0)) b.1 in
    let p = and_both (leb 1 (n / 74)) (leb (n / 74) most_records && eqb (n % 74) 0) t in
    let q = and_both (leb (n / 74) most_records) (eqb (n % 74) 0) p.1 in
    whole_by file (leb-true 1 (n / 74) p.0) (leb-true (n / 74) most_records q.0) (eqb-true (n % 74) 0 q.1)

-- the file ends where a mesh has ended
pub ended : (file : List ℕ) → first_broken (stage_two file) ≡ Fine → may_end (due_of (state_at file (records_of file))) ≡ true
unfolding stage_two last_checks
ended file h =
    let d = due_of (state_at file (records_of file)) in
    check_fine 2 (records_of file + 1) 1 4 (may_end d) (both_fine (rows (records_of file) (stage_two_rules file)) (block 2 (records_of file + 1) (last_checks d)) h).1

-- of record k + 1, due as d, all checks hold
pub two_holds : (file : List ℕ) → first_broken (stage_two file) ≡ Fine → (k : ℕ) → k < records_of file
    → {d : Due} → due_of (state_at file k) ≡ d → Holding (checks_of d (record_of file (k + 1)))
unfolding stage_two
two_holds file h k l e = rw (← e) (all_hold 2 (k + 1) _ (row_fine (stage_two_rules file) (records_of file) (both_fine _ _ h).0 k l))
