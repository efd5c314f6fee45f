-- `asks::head_fault` meets its contract: each arm answers what the list asks there, and past its end nothing is asked.
-- Assumes nothing.
use mathlib.Core.Path.{◌≡◌}
use mir.Syntax.{w32}
use mir.Val.{to_z, of_z}
use Rattle.records.proofs.Layouts.{above}
use Rattle.asks.specs.Asks.{at, layer_asks}
use Rattle.permitted.proofs.Signs.{passed_on}
use Rattle.asks.proofs.Slots.{none_asked}
use Rattle.asks.proofs.head_fault.Goals as goal
use Rattle.asks.proofs.head_fault.Goals.{After-at-v}

-- the number v, as the callees get it: number i
number : (c : After-at-v) → to_z w32 (of_z w32 c.at-v.result) ≡ at c.args.ns.now c.args.i
number c = passed_on c.at-v.type_inv c.at-v.ensures

pub returns-in-0 : goal.returns-in-0
unfolding layer_asks
returns-in-0 c =
    rw (
      c.both.ensures,
      c.is_layer_code.ensures,
      c.follows_layer.ensures,
      number (goal.at.returns-in-0 c).After-at-v,
      c.in-0.is,
    )

pub returns-in-1 : goal.returns-in-1
unfolding layer_asks
returns-in-1 c = rw (c.permitted.ensures, c.natural.ensures, number (goal.at.returns-in-1 c).After-at-v, c.in-1.is)

pub returns-in-2 : goal.returns-in-2
unfolding layer_asks
returns-in-2 c = rw (c.permitted-in-2.ensures, c.within.ensures, number (goal.at.returns-in-2 c).After-at-v, c.in-2.is)

pub returns-in-3 : goal.returns-in-3
unfolding layer_asks
returns-in-3 c =
    rw (
      c.permitted-in-3.ensures,
      c.of_areas.ensures,
      c.natural-in-3.ensures,
      number (goal.at.returns-in-3 c).After-at-v,
      c.in-3.is,
    )

pub returns-in-4 : goal.returns-in-4
unfolding layer_asks
returns-in-4 c = rw (c.permitted-in-4.ensures, c.is.ensures, number (goal.at.returns-in-4 c).After-at-v, c.in-4.is)

pub returns-in-5 : goal.returns-in-5
unfolding layer_asks
returns-in-5 c = rw (c.permitted-in-5.ensures, c.natural-in-5.ensures, number (goal.at.returns-in-5 c).After-at-v, c.in-5.is)

pub returns-in-6 : goal.returns-in-6
unfolding layer_asks
returns-in-6 c = rw (c.permitted-in-6.ensures, c.is_date.ensures, number (goal.at.returns-in-6 c).After-at-v, c.in-6.is)

pub returns-in-7 : goal.returns-in-7
unfolding layer_asks
returns-in-7 c = rw (c.permitted-in-7.ensures, c.is_date-in-7.ensures, number (goal.at.returns-in-7 c).After-at-v, c.in-7.is)

pub returns-in_default : goal.returns-in_default
unfolding layer_asks
returns-in_default c =
    let a = c.args in
    none_asked (layer_asks a.last a.letters a.ns.now) a.i (above 8 _ c.in_default.in_default-own.rest)
