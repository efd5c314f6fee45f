-- `writers::in_range` meets its contract: at each width the definition's two bounds are the code's numerals. Assumes nothing.
use mathlib.Core.Path.{sym}
use native.Mathlib.Omega.{arith}
use mir.Facts.{to_z-of_z}
use Rattle.fields.specs.Number.{holds}
use Rattle.fields.proofs.Range.{holds_no_width}
use Rattle.writers.proofs.in_range.Goals as goal

pub returns-in-1 : goal.returns-in-1
unfolding holds
returns-in-1 c = rw (c.in-1.is, to_z-of_z c.ranges.value)

pub returns-in-2 : goal.returns-in-2
unfolding holds
returns-in-2 c = rw (c.in-2.is, to_z-of_z c.ranges.value)

pub returns-in-3 : goal.returns-in-3
unfolding holds
returns-in-3 c = rw (c.in-3.is, to_z-of_z c.ranges.value)

pub returns-in-4 : goal.returns-in-4
unfolding holds
returns-in-4 c = rw (c.in-4.is, to_z-of_z c.ranges.value)

pub returns-in-5 : goal.returns-in-5
unfolding holds
returns-in-5 c = rw (c.in-5.is, to_z-of_z c.ranges.value)

pub returns-in-6 : goal.returns-in-6
unfolding holds
returns-in-6 c = rw (c.in-6.is, to_z-of_z c.ranges.value)

pub returns-in_default : goal.returns-in_default
returns-in_default c =
    sym (holds_no_width c.args.width (λ e. omega arith) (λ e. omega arith) (λ e. omega arith) (λ e. omega arith) (λ e. omega arith) (λ e. omega arith) _)
