use mathlib.Core.Path.{◌≡◌, ◌∙◌, ap}
use Prim.Native.Nat.{◌+◌, ◌≤◌}
use native.Mathlib.Nat.{le_refl}
use native.Mathlib.Omega.{arith}
use borrow.Author.Rules.{rules}
use Rattle.walk.specs.States.{no_counts, due_of, state_at, counts_at}
use Rattle.walk.proofs.Walking.{at_none, next_state, counts_none, next_counts, countable}
use Rattle.walk.proofs.Passing.{pass_most, pass_are_quiet, passed_state, passed_counts}
use Rattle.walk.proofs.Filling.{none_filled, room_left, one_filled, quiet_filled, filled_many, all_filled}
use Rattle.walk.proofs.fill.Goals as goal
use Rattle.walk.proofs.fill.Goals.{After-next-s}

pub loop-k-init : goal.loop-k-init
loop-k-init c =
    let none : c.default-c.result ≡ no_counts = search rules in (
      search rules,
      c.at_start-s.ensures ∙ at_none _,
      none ∙ counts_none _,
      none_filled _ _ c.records_of-n.ensures.0 c.requires.total_value c.requires.areas_in_bounds,
    )

pub put_record-requires : goal.put_record-requires
put_record-requires c =
    room_left _ _ c.records_of-n.ensures.0 c.requires.total_value c.requires.areas_in_bounds _ c.loop-k-test.true
    (c.due-d.ensures ∙ ap due_of c.loop-k.invariant.1) c.loop-k.invariant.2 c.loop-k.invariant.3

pub counted-c-requires : goal.counted-c-requires
counted-c-requires c = rw c.loop-k.invariant.2 (countable _ _ (search rules))

pub overflow_add-k-in-loop-k-2 : goal.overflow_add-k-in-loop-k-2
overflow_add-k-in-loop-k-2 c =
    omega (arith, c.loop-k-test.true, c.records_of-n.ensures.1)

pub overflow_sub-n : goal.overflow_sub-n
overflow_sub-n c = omega (arith, c.loop-k-test.true)

-- the state and the counts behind the record
behind : (c : After-next-s)
    → (c.next-s.result
    ≡ state_at
    c.args.file.now
    (c.loop-k.k + 1))
    × (c.counted-c.result
    ≡ counts_at
    c.args.file.now
    (c.loop-k.k + 1))
behind c =
    let t = c.record_view-t.ensures in (
      next_state _ _ c.loop-k.invariant.1 (rw t at c.next-s.ensures),
      next_counts _ _ c.loop-k.invariant.2 (c.due-d.ensures ∙ ap due_of c.loop-k.invariant.1) (rw t at c.counted-c.ensures),
    )

pub counted_past-c-requires : goal.counted_past-c-requires
counted_past-c-requires c =
    let r = c.records_of-n.ensures.1 in
    let k : c.loop-k.k + 1 ≤ 6399936 = omega (arith, c.loop-k-test.true, r) in
    (rw (behind (goal.at.counted_past-c-requires c).After-next-s).1 (countable _ _ k).nodes, omega (arith, pass_most _ _ c.pass_quiet-p.ensures.0, r))

pub overflow_add-k-in-loop-k-3 : goal.overflow_add-k-in-loop-k-3
overflow_add-k-in-loop-k-3 c =
    omega (arith, c.loop-k-test.true, pass_most _ _ c.pass_quiet-p.ensures.0, c.records_of-n.ensures.1)

pub loop-k-smaller : goal.loop-k-smaller
loop-k-smaller c = omega (arith, c.loop-k-test.true)

pub loop-k-preserved : goal.loop-k-preserved
loop-k-preserved c =
    let b = behind (goal.at.loop-k-preserved c).After-next-s in
    let q = c.pass_quiet-p.ensures in
    let u = pass_are_quiet _ _ q.0 in
    let f =
    one_filled _ _ c.records_of-n.ensures.0 c.requires.total_value c.requires.areas_in_bounds _ c.loop-k-test.true (c.due-d.ensures ∙ ap due_of c.loop-k.invariant.1)
    c.loop-k.invariant.2 c.loop-k.invariant.3 c.record_view-t.ensures c.put_record.ensures in (
      omega (arith, c.loop-k-test.true, pass_most _ _ q.0),
      q.1 ∙ passed_state _ _ b.0 u _ (le_refl _),
      c.counted_past-c.ensures ∙ passed_counts _ _ b.0 u _ (le_refl _) b.1,
      quiet_filled _ _ c.records_of-n.ensures.0 c.requires.total_value c.requires.areas_in_bounds _ b.0 u f,
    )

pub shape_of-table : goal.shape_of-table
shape_of-table c =
    filled_many _ _ c.records_of-n.ensures.0 c.requires.total_value c.requires.areas_in_bounds _ c.loop-k.invariant.0 c.loop-k.invariant.3

pub returns : goal.returns
returns c =
    all_filled _ _ c.records_of-n.ensures.0 c.requires.total_value c.requires.areas_in_bounds _ c.loop-k.invariant.0 c.loop-k-test.false c.loop-k.invariant.3
