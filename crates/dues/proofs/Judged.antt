-- The kind that is told of a record and what is judged there. Stage 2 judges each record by what the walk says is due, and what is told is its
-- kind; so the rules go along that kind's layout, a record that keeps them is read by it, and the end is judged by what is told behind the
-- last record. Assumes nothing.
use mathlib.Core.Bool.{Bool, true, false, cond}
use mathlib.Core.List.{List, [], ◌∷◌}
use mathlib.Core.Path.{◌≡◌, refl, sym, ◌∙◌}
use Prim.Native.Nat.{ℕ, suc, ◌+◌, ◌≤◌, ◌<◌}
use native.Mathlib.Omega.{arith}
use lib.IntN.{ℤ}
use lib.ListN.{length}
use borrow.Author.Tests.{eq-eqb}
use Rattle.records.specs.declared.Field.{Field}
use Rattle.records.specs.declared.Field.TheVariants as field
use Rattle.records.specs.declared.Kind.{Kind}
use Rattle.records.specs.declared.Kind.TheVariants as kind
use Rattle.records.specs.Layout.{layout_of}
use Rattle.records.specs.Reading.{fault_of, first_fault, no_fault, zeros, value_in, fields_of, reading_of}
use Rattle.std.specs.Prelude.{Ok}
use Rattle.records.specs.View.{record_of}
use Rattle.records.proofs.Numbers.{record_length}
use Rattle.records.proofs.RecordLaws.{fault_free}
use Rattle.verdict.specs.Rules.{Fine, Broken, first_broken, check, block, rows}
use Rattle.verdict.proofs.Parts.{in_turn, both_fine, check_none, check_kept, check_broken}
use Rattle.verdict.proofs.Holding.{Holding, all_hold, both_hold, row_fine}
use Rattle.std.specs.Prelude.{Some}
use Rattle.asks.specs.Asks.{Ask}
use Rattle.rules.specs.declared.Due.{Due}
use Rattle.rules.specs.declared.Due.TheVariants as due
use Rattle.rules.specs.Checks.{kind_of, asked_of, form_checks, value_checks, with_number, with_code, along, checks_of}
use Rattle.walk.specs.States.{due_of, state_at}
use Rattle.walk.specs.Stages.{records_of, end_checks, stage_one, last_checks, stage_two, may_end, walked_of, verdict_in}
use Rattle.walk.proofs.Judging.{ends_of, stage_two_rules, two_holds, whole, walked_verdict}
use Rattle.dues.specs.Dues.{due_at}
use Rattle.dues.proofs.Told.{told}

-- ---- stage 2

module _ (file : List ℕ) (k : ℕ) {j : Kind} (e : due_at file (k + 1) ≡ Some j) where
  told_is : k ≤ records_of file → kind_of (due_of (state_at file k)) ≡ j
  told_is l = let t = sym (told file k l) ∙ e in cc

  -- JUDGED AS TOLD: the rules of record k + 1 in stage 2 go along the layout of the kind that is told of it
  pub judged_as_told : k < records_of file
      → stage_two_rules file k
      ≡ block 2 (k + 1) (along (asked_of (due_of (state_at file k)) (record_of file (k + 1))) (layout_of j) 0 zeros (record_of file (k + 1)))
  unfolding checks_of
  judged_as_told l = rw (← told_is (omega arith))

-- ---- the reader

module _ (t : List ℕ) where
  -- a field whose form is kept has no fault
  formed : (f : Field) → Holding (form_checks f t) → fault_of f t ≡ 0
  unfolding form_checks fault_of
  formed (field.Letters a b c) h = fault_free (field.Letters a b c) t h.0
  formed (field.Number c w) h = fault_free (field.Number c w) t h.0
  formed (field.Code c w) h = fault_free (field.Code c w) t h.0
  formed (field.Name c w) h = fault_free (field.Name c w) t h.0
  formed (field.Blank c w) h = fault_free (field.Blank c w) t h.0

  -- nor has a record that keeps its checks
  no_fault_lem : (a : ℕ → List ℤ → List Ask) (L : List Field) (i : ℕ) (ns : List ℤ) → Holding (along a L i ns t) → first_fault L t ≡ no_fault
  unfolding along first_fault
  no_fault_lem a [] i ns h = refl
  no_fault_lem a (field.Letters x y z ∷ L) i ns h =
      let b = both_hold (form_checks (field.Letters x y z) t) _ h in
      rw (formed (field.Letters x y z) b.0) (no_fault_lem a L i ns b.1)
  no_fault_lem a (field.Number c w ∷ L) i ns h =
      let b = both_hold (form_checks (field.Number c w) t) _ h in
      let v = both_hold (value_checks c (a i (with_number ns i t c w))) _ b.1 in
      rw (formed (field.Number c w) b.0) (no_fault_lem a L (suc i) (with_number ns i t c w) v.1)
  no_fault_lem a (field.Code c w ∷ L) i ns h =
      let b = both_hold (form_checks (field.Code c w) t) _ h in
      let v = both_hold (value_checks c (a i (with_code ns i t c w))) _ b.1 in
      rw (formed (field.Code c w) b.0) (no_fault_lem a L (suc i) (with_code ns i t c w) v.1)
  no_fault_lem a (field.Name c w ∷ L) i ns h =
      let b = both_hold (form_checks (field.Name c w) t) _ h in
      rw (formed (field.Name c w) b.0) (no_fault_lem a L i ns b.1)
  no_fault_lem a (field.Blank c w ∷ L) i ns h =
      let b = both_hold (form_checks (field.Blank c w) t) _ h in
      rw (formed (field.Blank c w) b.0) (no_fault_lem a L i ns b.1)

-- READ AS TOLD: in a file that keeps stages 1 and 2 each record is read by the kind that is told of it, without a refusal
pub read_as_told : (file : List ℕ) → first_broken (stage_one file) ≡ Fine → first_broken (stage_two file) ≡ Fine
    → (k : ℕ) → k < records_of file → {j : Kind} → due_at file (k + 1) ≡ Some j → reading_of j (record_of file (k + 1)) ≡ Ok (value_in j (record_of file (k + 1)))
unfolding stage_one end_checks checks_of fields_of reading_of
read_as_told file one two k l {j} e =
    let t = record_of file (k + 1) in
    let d = due_of (state_at file k) in
    let w = whole file one in
    let n : length t ≡ 74 = record_length file (k + 1) (omega arith) (omega (arith, w.all)) in
    let b = all_hold 1 (k + 1) _ (row_fine (ends_of file) (records_of file) (both_fine _ _ one).0 k l) in
    let f = no_fault_lem t (asked_of d t) (layout_of (kind_of d)) 0 zeros (two_holds file two k l refl) in
    rw (eq-eqb (length t) 74 n, b.0, b.1.0, ← told_is file k e (omega arith), f)

-- ---- the end

abbrev pub is_mesh : Kind → Bool
is_mesh kind.Mesh = true
is_mesh kind.Layer = false
is_mesh kind.Node = false
is_mesh kind.Line = false
is_mesh kind.Coordinates = false
is_mesh kind.Area = false
is_mesh kind.Loop = false

-- the file may end where an M is due
may_end_lem : (d : Due) → may_end d ≡ is_mesh (kind_of d)
may_end_lem (due.Mesh last) = refl
may_end_lem (due.Layer last) = refl
may_end_lem (due.Node layer last) = refl
may_end_lem (due.Line layer last letters) = refl
may_end_lem (due.Coordinates left) = refl
may_end_lem (due.Area layer last) = refl
may_end_lem (due.Loop last count left) = refl

last_by : (r : ℕ) (b : Bool) → first_broken (block 2 r (check 1 4 b ∷ [])) ≡ cond b Fine (Broken 4 r 1)
last_by r true = check_kept 2 r 1 4 true [] refl ∙ sym (check_none 2 r)
last_by r false = check_broken 2 r 1 4 false [] refl

-- ENDED AS TOLD: where a file keeps stage 1 and each of its records the rules of stage 2, its end is fine if an M is told behind the last record;
-- if any other record is, it is 4 there
pub ended_as_told : (file : List ℕ) → first_broken (stage_one file) ≡ Fine → first_broken (rows (records_of file) (stage_two_rules file)) ≡ Fine
    → {j : Kind} → due_at file (records_of file + 1) ≡ Some j → verdict_in (walked_of file) ≡ cond (is_mesh j) Fine (Broken 4 (records_of file + 1) 1)
unfolding stage_two last_checks
ended_as_told file one two e =
    let n = records_of file in
    walked_verdict file
    ∙ rw (
      in_turn (stage_one file) (stage_two file),
      one,
      in_turn (rows n (stage_two_rules file)) (block 2 (n + 1) (last_checks (due_of (state_at file n)))),
      two,
      last_by (n + 1) (may_end (due_of (state_at file n))),
      may_end_lem (due_of (state_at file n)),
      told_is file n e (omega arith),
    )
