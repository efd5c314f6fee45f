use mathlib.Core.Path.{◌∙◌}
use native.Mathlib.Nat.{le_refl}
use native.Mathlib.Omega.{arith}
use borrow.Author.Rules.{rules}
use Rattle.walk.proofs.Walking.{at_none, next_state}
use Rattle.walk.proofs.Passing.{pass_most, pass_are_quiet, passed_state}
use Rattle.dues.proofs.Told.{all_behind}
use Rattle.dues.proofs.behind.Goals as goal

pub loop-k-init : goal.loop-k-init
loop-k-init c = (search rules, c.at_start-s.ensures ∙ at_none _)

pub loop-k-preserved : goal.loop-k-preserved
loop-k-preserved c =
    let q = c.pass_quiet-p.ensures in
    let s = next_state _ _ c.loop-k.invariant.1 (rw c.record_view.ensures at c.next-s.ensures) in (
      omega (arith, pass_most _ _ q.0),
      q.1 ∙ passed_state _ _ s (pass_are_quiet _ _ q.0) _ (le_refl _),
    )

pub returns : goal.returns
returns c = all_behind _ _ c.loop-k.invariant.1 c.loop-k.invariant.0 c.loop-k-test.false
