-- `sides::MarkedFile::unmarked` meets its contract: no mark is there that could be wrong. Assumes nothing.
use Rattle.sides.proofs.Marked.{no_marks}
use Rattle.sides.proofs.MarkedFile.unmarked.Goals as goal

pub invariant_of-result : goal.invariant_of-result
invariant_of-result c = no_marks _ 20000
