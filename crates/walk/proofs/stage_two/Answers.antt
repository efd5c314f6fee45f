use mathlib.Core.Path.{◌≡◌, refl, ap, ◌∙◌}
use native.Mathlib.Nat.{le_refl}
use native.Mathlib.Omega.{arith}
use borrow.Author.Rules.{rules}
use Rattle.std.proofs.lemmas.Result.{err_from_is_err_and}
use Rattle.verdict.proofs.Parts.{rows_none, rows_pass}
use Rattle.walk.specs.States.{no_counts, due_of}
use Rattle.walk.proofs.Walking.{at_none, next_state, counts_none, next_counts, countable}
use Rattle.walk.proofs.Passing.{past_counts, pass_most, pass_are_quiet, passed_state, passed_counts, found_most, found_fit, fine_rows}
use Rattle.walk.proofs.Judging.{rule_is, two_stops, two_done, counts_done, walked_broken, walked_kept}
use Rattle.walk.proofs.stage_two.Goals as goal

pub loop-k-init : goal.loop-k-init
loop-k-init c =
    let none : c.default-c.result ≡ no_counts = search rules in (search rules, c.at_start-s.ensures ∙ at_none _, none ∙ counts_none _, rows_none _)

pub returns-in_err-judge_record : goal.returns-in_err-judge_record
returns-in_err-judge_record c =
    let p = err_from_is_err_and c.from_residual.result c.from_residual.ensures.1 in
    rw (p.1, p.2)
    (walked_broken _
    (two_stops _ c.records_of-n.ensures.0 _ refl
    (rule_is _ _ c.loop-k.invariant.1 c.due-d.ensures c.record_view-t.ensures c.in_err-judge_record.ensures) c.loop-k.invariant.3 (search rules)))

pub counted-c-requires : goal.counted-c-requires
counted-c-requires c = rw c.loop-k.invariant.2 (countable _ _ (search rules))

pub overflow_add-k-in-loop-k-2 : goal.overflow_add-k-in-loop-k-2
overflow_add-k-in-loop-k-2 c =
    let l = c.loop-k-test.true in
    let r = c.records_of-n.ensures.1 in
    omega (arith, l, r)

pub fine_ahead-h-requires : goal.fine_ahead-h-requires
fine_ahead-h-requires c =
    (omega (arith, c.loop-k-test.true), c.records_of-n.ensures.1)

pub overflow_add-k-in-loop-k-3 : goal.overflow_add-k-in-loop-k-3
overflow_add-k-in-loop-k-3 c =
    omega (
      arith,
      c.loop-k-test.true,
      pass_most _ _ c.pass_quiet-p.ensures.0,
      found_most _ _ _ _ c.fine_ahead-h.ensures,
      c.records_of-n.ensures.1,
    )

pub loop-k-smaller : goal.loop-k-smaller
loop-k-smaller c = omega (arith, c.loop-k-test.true)

pub loop-k-preserved : goal.loop-k-preserved
loop-k-preserved c =
    let r = c.record_view-t.ensures in
    let s = next_state _ _ c.loop-k.invariant.1 (rw r at c.next-s.ensures) in
    let n = next_counts _ _ c.loop-k.invariant.2 (c.due-d.ensures ∙ ap due_of c.loop-k.invariant.1) (rw r at c.counted-c.ensures) in
    let g = c.pass_quiet-p.ensures in
    let m = pass_most _ _ g.0 in
    let u = pass_are_quiet _ _ g.0 in
    let o = found_fit _ _ _ _ c.fine_ahead-h.ensures in (
      omega (arith, c.loop-k-test.true, m, found_most _ _ _ _ c.fine_ahead-h.ensures),
      g.1 ∙ passed_state _ _ s u _ (le_refl _),
      past_counts _ c.next-s.result _ (λ i. o.left (omega (arith, m))) ∙ passed_counts _ _ s u _ (le_refl _) n,
      fine_rows _ _ s u o m
          (rows_pass _ _ c.loop-k.invariant.3 (rule_is _ _ c.loop-k.invariant.1 c.due-d.ensures r c.in_ok-judge_record.ensures) refl),
    )

pub returns-in_err-judge_last : goal.returns-in_err-judge_last
returns-in_err-judge_last c =
    let p = err_from_is_err_and c.from_residual-in_err-judge_last.result c.from_residual-in_err-judge_last.ensures.1 in
    rw (p.1, p.2)
    (walked_broken _
    (two_done _ c.records_of-n.ensures.0 _ c.loop-k.invariant.1 c.due.ensures c.in_err-judge_last.ensures c.loop-k.invariant.3 (search rules) (search rules)))

pub returns : goal.returns
returns c =
    walked_kept
    (two_done _ c.records_of-n.ensures.0 _ c.loop-k.invariant.1 c.due.ensures c.in_ok-judge_last.ensures c.loop-k.invariant.3 (search rules) (search rules))
    (counts_done _ c.records_of-n.ensures.0 _ c.loop-k.invariant.2 (search rules) (search rules))
