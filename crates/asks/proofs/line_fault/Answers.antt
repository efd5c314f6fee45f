-- `asks::line_fault` meets its contract: each arm answers what the list asks there, and past its end nothing is asked.
-- Assumes nothing.
use mathlib.Core.Path.{◌≡◌}
use mir.Syntax.{w32}
use mir.Val.{to_z, of_z}
use Rattle.records.proofs.Layouts.{above}
use Rattle.asks.specs.Asks.{at, line_asks, first_asked}
use Rattle.permitted.proofs.Signs.{passed_on}
use Rattle.asks.proofs.Slots.{none_asked}
use Rattle.asks.proofs.line_fault.Goals as goal
use Rattle.asks.proofs.line_fault.Goals.{After-at-v}

-- the number v, as the callees get it: number i
number : (c : After-at-v) → to_z w32 (of_z w32 c.at-v.result) ≡ at c.args.ns.now c.args.i
number c = passed_on c.at-v.type_inv c.at-v.ensures

pub returns-in-0 : goal.returns-in-0
unfolding line_asks
returns-in-0 c = rw (c.layer_fault.ensures, number (goal.at.returns-in-0 c).After-at-v, c.in-0.is)

pub returns-in-1 : goal.returns-in-1
unfolding line_asks
returns-in-1 c = rw (c.permitted.ensures, c.is_line_item.ensures, number (goal.at.returns-in-1 c).After-at-v, c.in-1.is)

pub returns-in-2 : goal.returns-in-2
unfolding line_asks
returns-in-2 c = rw (c.in_step.ensures, c.is_next.ensures, number (goal.at.returns-in-2 c).After-at-v, c.in-2.is)

pub returns-in-3 : goal.returns-in-3
unfolding line_asks
returns-in-3 c =
    rw (
      c.permitted-in-3.ensures,
      c.is_line_kind.ensures,
      number (goal.at.returns-in-3 c).After-at-v,
      passed_on c.at.type_inv c.at.ensures,
      c.in-3.is,
    )

pub returns-in-4 : goal.returns-in-4
unfolding line_asks first_asked
returns-in-4 c = rw c.in-4.is

pub returns-in-5 : goal.returns-in-5
unfolding line_asks
returns-in-5 c = rw (c.permitted-in-5.ensures, c.is_link.ensures, number (goal.at.returns-in-5 c).After-at-v, c.in-5.is)

pub returns-in-6 : goal.returns-in-6
unfolding line_asks first_asked
returns-in-6 c = rw c.in-6.is

pub returns-in-7 : goal.returns-in-7
unfolding line_asks
returns-in-7 c = rw (c.permitted-in-7.ensures, c.is_link-in-7.ensures, number (goal.at.returns-in-7 c).After-at-v, c.in-7.is)

pub returns-in-8 : goal.returns-in-8
unfolding line_asks
returns-in-8 c =
    rw (
      c.permitted-in-8.ensures,
      c.of_areas.ensures,
      c.is_code.ensures,
      number (goal.at.returns-in-8 c).After-at-v,
      c.in-8.is,
    )

pub returns-in-9 : goal.returns-in-9
unfolding line_asks
returns-in-9 c =
    rw (
      c.permitted-in-9.ensures,
      c.of_areas-in-9.ensures,
      c.is_side.ensures,
      number (goal.at.returns-in-9 c).After-at-v,
      passed_on c.at-in-9.type_inv c.at-in-9.ensures,
      c.in-9.is,
    )

pub returns-in-10 : goal.returns-in-10
unfolding line_asks
returns-in-10 c =
    rw (
      c.permitted-in-10.ensures,
      c.of_areas-in-10.ensures,
      c.is_code-in-10.ensures,
      number (goal.at.returns-in-10 c).After-at-v,
      c.in-10.is,
    )

pub returns-in-11 : goal.returns-in-11
unfolding line_asks
returns-in-11 c =
    rw (
      c.permitted-in-11.ensures,
      c.of_areas-in-11.ensures,
      c.is_side-in-11.ensures,
      number (goal.at.returns-in-11 c).After-at-v,
      passed_on c.at-in-11.type_inv c.at-in-11.ensures,
      c.in-11.is,
    )

pub returns-in-12 : goal.returns-in-12
unfolding line_asks
returns-in-12 c = rw (c.permitted-in-12.ensures, c.at_least.ensures, number (goal.at.returns-in-12 c).After-at-v, c.in-12.is)

pub returns-in-13 : goal.returns-in-13
unfolding line_asks
returns-in-13 c = rw (c.permitted-in-13.ensures, c.is.ensures, number (goal.at.returns-in-13 c).After-at-v, c.in-13.is)

pub returns-in-14 : goal.returns-in-14
unfolding line_asks
returns-in-14 c = rw (c.permitted-in-14.ensures, c.is-in-14.ensures, number (goal.at.returns-in-14 c).After-at-v, c.in-14.is)

pub returns-in_default : goal.returns-in_default
unfolding line_asks
returns-in_default c =
    let a = c.args in
    none_asked (line_asks a.layer a.last a.letters a.ns.now) a.i (above 15 _ c.in_default.in_default-own.rest)
