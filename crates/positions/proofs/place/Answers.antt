-- `positions::place` meets its contract: it computes the definition's own sums, and none of them wraps. Assumes nothing.
use lib.Ieee.{of_bits, of_int}
use Rattle.positions.specs.Degrees.{hundredths, two_hundredths, degrees}
use Rattle.positions.proofs.place.Goals as goal

pub returns : goal.returns
unfolding hundredths two_hundredths degrees of_bits of_int
returns c = rw (c.from.ensures, c.from-2.ensures)
