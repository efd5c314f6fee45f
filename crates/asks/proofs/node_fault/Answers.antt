-- `asks::node_fault` meets its contract: each arm answers what the list asks there, the slots as one row, and past its end nothing is asked.
-- Assumes nothing.
use mathlib.Core.Path.{◌≡◌, ap, ◌∙◌}
use native.Mathlib.Omega.{arith}
use mir.Syntax.{w32}
use mir.Val.{to_z, of_z}
use Rattle.records.proofs.Layouts.{above}
use Rattle.asks.specs.Asks.{at, from, node_asks}
use Rattle.permitted.specs.Permitted.{size}
use Rattle.permitted.proofs.Signs.{passed_on}
use Rattle.asks.proofs.Slots.{slot_asked, none_asked}
use Rattle.asks.proofs.node_fault.Goals as goal
use Rattle.asks.proofs.node_fault.Goals.{After-at-v}

-- the number v, as the callees get it: number i
number : (c : After-at-v) → to_z w32 (of_z w32 c.at-v.result) ≡ at c.args.ns.now c.args.i
number c = passed_on c.at-v.type_inv c.at-v.ensures

pub overflow_sub-i : goal.overflow_sub-i
overflow_sub-i c = above 7 _ c.in-7-to-15.in_default-own.rest

pub returns-in-0 : goal.returns-in-0
unfolding node_asks
returns-in-0 c = rw (c.layer_fault.ensures, number (goal.at.returns-in-0 c).After-at-v, c.in-0.is)

pub returns-in-1 : goal.returns-in-1
unfolding node_asks
returns-in-1 c = rw (c.permitted.ensures, c.is_node_item.ensures, number (goal.at.returns-in-1 c).After-at-v, c.in-1.is)

pub returns-in-2 : goal.returns-in-2
unfolding node_asks
returns-in-2 c = rw (c.in_step.ensures, c.is_next.ensures, number (goal.at.returns-in-2 c).After-at-v, c.in-2.is)

pub returns-in-3 : goal.returns-in-3
unfolding node_asks
returns-in-3 c = rw (c.permitted-in-3.ensures, c.within.ensures, number (goal.at.returns-in-3 c).After-at-v, c.in-3.is)

pub returns-in-4 : goal.returns-in-4
unfolding node_asks
returns-in-4 c = rw (c.permitted-in-4.ensures, c.within-in-4.ensures, number (goal.at.returns-in-4 c).After-at-v, c.in-4.is)

pub returns-in-5 : goal.returns-in-5
unfolding node_asks
returns-in-5 c =
    rw (
      c.permitted-in-5.ensures,
      c.is_frame.ensures,
      number (goal.at.returns-in-5 c).After-at-v,
      passed_on c.at.type_inv c.at.ensures,
      passed_on c.at-in-5.type_inv c.at-in-5.ensures,
      c.in-5.is,
    )

pub returns-in-6 : goal.returns-in-6
unfolding node_asks
returns-in-6 c = rw (c.permitted-in-6.ensures, c.within-in-6.ensures, number (goal.at.returns-in-6 c).After-at-v, c.in-6.is)

pub returns-in-7-to-15 : goal.returns-in-7-to-15
unfolding node_asks
returns-in-7-to-15 c =
    let a = c.args in
    let n = c.size.result in
    let count : n ≡ size (at a.ns.now 6) = c.size.ensures ∙ ap size (passed_on c.at-in-7-to-15.type_inv c.at-in-7-to-15.ensures) in
    let l = above 7 a.i c.in-7-to-15.in_default-own.rest in
    c.slot_fault.ensures
    ∙ slot_asked (node_asks a.layer a.last a.ns.now) 7 9 n a.i a.ns.now
    (number (goal.at.returns-in-7-to-15 c).After-at-v) (rw count) l (omega (arith, c.in-7-to-15.if-i-lt16-own.true))

pub returns-in_default : goal.returns-in_default
unfolding node_asks from
returns-in_default c =
    let a = c.args in
    none_asked (node_asks a.layer a.last a.ns.now) a.i c.in_default.if-i-lt16-own.false
