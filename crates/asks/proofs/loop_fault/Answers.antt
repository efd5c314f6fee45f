-- `asks::loop_fault` meets its contract: each arm answers what the list asks there, the slots as one row, and past its end nothing is asked.
-- Assumes nothing.
use mathlib.Core.Path.{◌≡◌, ap, ◌∙◌}
use native.Mathlib.Omega.{arith}
use mir.Syntax.{w32}
use mir.Val.{to_z, of_z}
use Rattle.records.proofs.Layouts.{above}
use Rattle.asks.specs.Asks.{at, from, entries_due, loop_asks}
use Rattle.permitted.specs.Permitted.{size}
use Rattle.permitted.proofs.Signs.{passed_on}
use Rattle.asks.proofs.Slots.{slot_asked, none_asked}
use Rattle.asks.proofs.loop_fault.Goals as goal
use Rattle.asks.proofs.loop_fault.Goals.{After-at-v}

-- the number v, as the callees get it: number i
number : (c : After-at-v) → to_z w32 (of_z w32 c.at-v.result) ≡ at c.args.ns.now c.args.i
number c = passed_on c.at-v.type_inv c.at-v.ensures

pub overflow_sub-i : goal.overflow_sub-i
overflow_sub-i c = above 2 _ c.in-2-to-13.in_default-own.rest

pub returns-in-0 : goal.returns-in-0
unfolding loop_asks
returns-in-0 c = rw (c.in_step.ensures, c.is_loop_due.ensures, number (goal.at.returns-in-0 c).After-at-v, c.in-0.is)

pub returns-in-1 : goal.returns-in-1
unfolding loop_asks
returns-in-1 c =
    rw (
      c.both.ensures,
      c.at_least.ensures,
      c.is.ensures,
      number (goal.at.returns-in-1 c).After-at-v,
      c.in-1.is,
    )

pub returns-in-2-to-13 : goal.returns-in-2-to-13
unfolding loop_asks
returns-in-2-to-13 c =
    let a = c.args in
    let n = c.entries_due.result in
    let count : c.size.result ≡ size (at a.ns.now 1) =
    c.size.ensures ∙ ap size (passed_on c.at.type_inv c.at.ensures) in
    let due : n ≡ entries_due (size (at a.ns.now 1)) a.left = c.entries_due.ensures ∙ rw count in
    let l = above 2 a.i c.in-2-to-13.in_default-own.rest in
    c.slot_fault.ensures
    ∙ slot_asked (loop_asks a.last a.count a.left a.ns.now) 2 12 n a.i a.ns.now
    (number (goal.at.returns-in-2-to-13 c).After-at-v) (rw due) l (omega (arith, c.in-2-to-13.if-i-lt14-own.true))

pub returns-in_default : goal.returns-in_default
unfolding loop_asks from
returns-in_default c =
    let a = c.args in
    none_asked (loop_asks a.last a.count a.left a.ns.now) a.i c.in_default.if-i-lt14-own.false
