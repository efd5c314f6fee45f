use mathlib.Core.Path.{refl}
use borrow.Author.Rules.{rules}
use Rattle.judge.specs.Outcomes.{pairs_to}
use Rattle.judge.proofs.Adding.{pair_put}
use Rattle.judge.proofs.fill_sums.Goals as goal

pub loop-i-init : goal.loop-i-init
unfolding pairs_to
loop-i-init c = refl

pub loop-i-preserved : goal.loop-i-preserved
loop-i-preserved c =
    pair_put _ _ _ _ _ _ c.requires.1 c.loop-i.invariant c.loop-i-test.true c.layer_in.ensures c.sums_in-areas.ensures (search rules) (search rules)
