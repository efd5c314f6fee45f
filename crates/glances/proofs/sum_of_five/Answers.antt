-- `glances::sum_of_five` meets its contract: the field's bytes are added up where they lie within `s`. Assumes nothing.
use mathlib.Core.Path.{ap, ◌∙◌}
use lib.ListN.{length}
use Rattle.fields.proofs.Places.{bytes_length}
use Rattle.glances.proofs.Remainders.{part_sum, no_sum}
use Rattle.glances.proofs.sum_of_five.Goals as goal

pub returns-in_default : goal.returns-in_default
returns-in_default c = no_sum _ _ _ c.in_default.ensures

pub remainders_of-requires : goal.remainders_of-requires
remainders_of-requires c = ap length c.in-Some.ensures.1 ∙ bytes_length _ _ _ c.in-Some.ensures.0

pub returns : goal.returns
returns c = c.remainders_of.ensures ∙ part_sum _ _ _ c.in-Some.ensures.0 c.in-Some.ensures.1
