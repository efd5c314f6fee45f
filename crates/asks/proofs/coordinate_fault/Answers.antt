-- `asks::coordinate_fault` meets its contract: the fourteen numbers are one row of asks, and past it nothing is asked.
-- Assumes nothing.
use mathlib.Core.List.{[]}
use mathlib.Core.Path.{sym, ap}
use Rattle.asks.specs.Asks.{from, coordinate_asks, first_asked}
use Rattle.permitted.proofs.Signs.{passed_on}
use Rattle.asks.proofs.Slots.{row_at, none_asked}
use Rattle.asks.proofs.coordinate_fault.Goals as goal

pub returns-then-i-lt14 : goal.returns-then-i-lt14
unfolding coordinate_asks
returns-then-i-lt14 c =
    rw (c.permitted.ensures, c.is_point.ensures, passed_on c.at.type_inv c.at.ensures)
    (sym (ap first_asked (row_at _ 14 c.args.i [] c.if-i-lt14.true)))

pub returns : goal.returns
unfolding coordinate_asks from
returns c =
    let a = c.args in
    none_asked (coordinate_asks a.left a.ns.now) a.i c.if-i-lt14.false
