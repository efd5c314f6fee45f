-- `glances::lone_zero` meets its contract: it computes the definition's own tests. Assumes nothing.
use borrow.Author.Tests.{le-leb, lt-leb}
use Rattle.glances.specs.Glimpse.{is_lone_zero}
use Rattle.glances.proofs.lone_zero.Goals as goal

pub returns-in_default : goal.returns-in_default
unfolding is_lone_zero
returns-in_default c = rw (lt-leb _ _ c.in_default.len_below)

pub returns : goal.returns
unfolding is_lone_zero
returns c = rw (le-leb _ _ c.in-len2-up.len_at_least)
