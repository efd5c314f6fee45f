-- `report::shown_of` meets its contract: the state's codes, and the numbers of the A; its code is a number to whoever looks at its value.
-- Assumes nothing.
use Rattle.records.proofs.Codes.{code_number}
use Rattle.walk.specs.States.{size_in}
use Rattle.report.specs.Texts.{shown_in}
use Rattle.report.proofs.shown_of.Goals as goal

pub returns : goal.returns
unfolding shown_in size_in
returns c = simp (c.size_at.ensures.0, c.size_at-2.ensures.0, code_number)
