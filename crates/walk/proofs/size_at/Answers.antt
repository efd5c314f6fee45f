-- `walk::size_at` meets its contract: the number's size, by the reader's answer; at most 6 digits. Assumes nothing.
use borrow.Author.Rules.{rules}
use Rattle.walk.proofs.Walking.{size_small, size_none, size_value}
use Rattle.walk.proofs.size_at.Goals as goal

pub returns-in-Some : goal.returns-in-Some
returns-in-Some c =
    let e = size_value _ _ _ c.read_number.ensures c.in-Some.is (search rules) c.size.ensures in
    (e, rw e (size_small _ _ _))

pub returns-in-None : goal.returns-in-None
returns-in-None c = (size_none _ _ _ c.read_number.ensures c.in-None.is, search rules)
