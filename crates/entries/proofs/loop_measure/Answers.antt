use mathlib.Core.Path.{◌≡◌, refl, sym, ◌∙◌, ap₂}
use Prim.Native.Nat.{◌*◌, ◌<◌}
use native.Mathlib.Omega.{arith}
use lib.IntN.{◌+ℤ◌}
use Rattle.links.proofs.Numbers.{told}
use Rattle.measures.specs.Sum.{sum}
use Rattle.measures.specs.Walks.{Small}
use Rattle.measures.specs.Measures.{loop_measure}
use Rattle.entries.specs.Entries.{loop_at, entries_to, records_for, count_at}
use Rattle.entries.specs.Loops.{slot_measure}
use Rattle.entries.specs.Keeping.{kept_loop}
use Rattle.entries.proofs.Keeping.{most, kept_none, kept_small}
use Rattle.entries.proofs.Summing.{sum_fits, sum_small, sum_is, slot_small, loop_more}
use Rattle.entries.proofs.loop_measure.Goals as goal
use Rattle.entries.proofs.loop_measure.Goals.{After-entry_measure-sum}

pub loop-e-init : goal.loop-e-init
unfolding loop_measure entries_to sum
loop-e-init c = (record { small = omega arith }, refl)

-- 834 records of twelve slots
few : (c : After-entry_measure-sum) → c.loop-e.e < 10008
few c = omega (arith, c.loop_records-e-end.ensures.1)

-- what the entry adds is small
entry-small : (c : After-entry_measure-sum) → Small most c.entry_measure-sum.result
entry-small c = rw c.entry_measure-sum.ensures (slot_small _ (kept_small _ _) _)

pub overflow_add-sum : goal.overflow_add-sum
overflow_add-sum c = sum_fits (few (goal.at.overflow_add-sum c).After-entry_measure-sum) c.loop-e.invariant.0 (entry-small (goal.at.overflow_add-sum c).After-entry_measure-sum)

pub loop-e-preserved : goal.loop-e-preserved
loop-e-preserved c =
    let l = c.loop-e in
    let n = few (goal.at.loop-e-preserved c).After-entry_measure-sum in
    let a = c.args in (
      sum_small n l.invariant.0 (entry-small (goal.at.loop-e-preserved c).After-entry_measure-sum),
      sum_is n l.invariant.0 (entry-small (goal.at.loop-e-preserved c).After-entry_measure-sum)
          ∙ ap₂ ◌+ℤ◌ l.invariant.1 (told (slot_measure _) c.slot_of.type_inv c.slot_of.ensures c.entry_measure-sum.ensures)
          ∙ sym (loop_more _ (kept_none a.l a.kept.now) a.file.now a.f l.e),
    )

pub returns : goal.returns
unfolding kept_loop loop_at
returns c =
    let l = c.loop-e in
    let a = c.args in
    let e : l.e ≡ 12 * records_for (count_at a.file.now a.f) = omega (arith, c.loop_records-e-end.ensures.0) in
    rw (← e) l.invariant.1
