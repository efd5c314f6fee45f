use mathlib.Core.Path.{sym, ◌∙◌}
use borrow.Author.Rules.{rules}
use Rattle.texts.proofs.TextSteps.{name_pair, name_short}
use Rattle.texts.proofs.pairs.Goals as goal

pub returns-then-not-pair : goal.returns-then-not-pair
returns-then-not-pair c = sym (c.loop-rest.invariant ∙ name_pair _ _ c.in-len2-up.len_at_least c.pair.ensures ∙ rw c.if-not-pair.true)

pub loop-rest-preserved : goal.loop-rest-preserved
loop-rest-preserved c = c.loop-rest.invariant ∙ name_pair _ _ c.in-len2-up.len_at_least c.pair.ensures ∙ rw c.if-not-pair.false

pub returns : goal.returns
returns c = name_short _ _ c.in_default.len_below (search rules) ∙ sym c.loop-rest.invariant
