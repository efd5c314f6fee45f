use mathlib.Core.Path.{◌∙◌}
use native.Mathlib.Nat.{le_refl}
use native.Mathlib.Omega.{arith}
use Rattle.walk.proofs.Walking.{next_state}
use Rattle.walk.proofs.Passing.{pass_most, pass_are_quiet, passed_state}
use Rattle.totals.proofs.Summing.{at_most_rank, above_rank, none_addable, more_addable, quiet_addable, sums_start, sums_stop, sums_more, sums_quiet, sums_end}
use Rattle.totals.proofs.sums_behind.Goals as goal

pub loop-i-init : goal.loop-i-init
loop-i-init c = (c.requires.0, c.requires.1, none_addable _, sums_start _ _ _)

pub returns-then-le : goal.returns-then-le
returns-then-le c =
    sums_stop _ _ _ (rw c.records_of-n.ensures.0 at c.loop-i-test.true)
    c.loop-i.invariant.1 c.due-d.ensures c.rank_of.ensures (at_most_rank _ _ c.le.ensures c.if-le.true) c.loop-i.invariant.3

pub loop-i-preserved : goal.loop-i-preserved
loop-i-preserved c =
    let r = c.room_for.ensures in
    let n = c.next-state.ensures in
    let a = c.added-sums.ensures in
    let v = c.record_view-t in
    let i = above_rank _ _ c.le.ensures c.if-le.false in
    let o = c.rank_of.ensures in
    let d = c.due-d in
    let t = c.loop-i-test.true in
    let p = c.loop-i in
    let s = c.records_of-n.ensures in
    let e = next_state _ _ p.invariant.1 (rw v.ensures at n) in
    let q = pass_are_quiet _ _ c.pass_quiet-p.ensures.0 in (
      omega (arith, pass_most _ _ c.pass_quiet-p.ensures.0, r.0, t, s.1),
      c.pass_quiet-p.ensures.1 ∙ passed_state _ _ e q _ (le_refl _),
      quiet_addable _ _ (more_addable _ d.result p.sums v.result.now a p.invariant.2),
      sums_quiet _ _ _ _ e q (λ l. r.1 (omega (arith, l, pass_most _ _ c.pass_quiet-p.ensures.0))) _
          (le_refl _) (omega (arith, s.0, pass_most _ _ c.pass_quiet-p.ensures.0, r.0, t, s.1))
          (sums_more _ _ _ _ (rw s.0 at t) p.invariant.1 d.ensures o i v.ensures a p.invariant.3),
    )

pub returns : goal.returns
returns c = sums_end _ _ _ (rw c.records_of-n.ensures.0 at c.loop-i-test.false) c.loop-i.invariant.3
