-- `judge::asked` meets its contract: one check speaks. Assumes nothing.
use mathlib.Core.Path.{sym, ◌∙◌}
use mathlib.Core.List.{[]}
use Rattle.verdict.proofs.Parts.{check_none, check_kept, check_broken}
use Rattle.judge.specs.Rulebook.{eighth}
use Rattle.judge.proofs.asked.Goals as goal

pub returns-then-kept : goal.returns-then-kept
returns-then-kept c = check_none eighth 0 ∙ sym (check_kept eighth 0 0 _ _ [] c.if-kept.true)

pub returns : goal.returns
returns c = sym (check_broken eighth 0 0 _ _ [] c.if-kept.false)
