-- `quick::fine_coordinates` meets its contract: a glance is sure of each number, or the record is broken there. Assumes nothing.
use mathlib.Core.Path.{◌≡◌}
use native.Mathlib.Omega.{arith}
use Rattle.glances.proofs.AtGlance.{sure_says, unsure_says}
use Rattle.quick.proofs.Glancing.{Glancing, glancing, number_glanced, number_above, number_none, last_glanced}
use Rattle.quick.proofs.fine_coordinates.Goals as goal

pub loop-i-init : goal.loop-i-init
loop-i-init c = glancing _ _

pub returns-in_default : goal.returns-in_default
returns-in_default c =
    number_none c.loop-i.invariant c.loop-i-test.true (λ n q. unsure_says _ c.in_default.is c.glance_number.ensures q)

pub returns-then-most_at-n : goal.returns-then-most_at-n
returns-then-most_at-n c =
    let s = sure_says _ c.in-Some.is c.glance_number.ensures in
    number_above c.loop-i.invariant c.loop-i-test.true s.0 (rw c.most_at.ensures at c.if-most_at-n.true)

pub loop-i-preserved : goal.loop-i-preserved
loop-i-preserved c =
    let s = sure_says _ c.in-Some.is c.glance_number.ensures in
    number_glanced c.loop-i.invariant c.loop-i-test.true s.0 (rw c.most_at.ensures at c.if-most_at-n.false)

pub returns : goal.returns
returns c =
    let z : c.loop-i.i ≡ 14 = omega (arith, c.loop-i.auto.i-end, c.loop-i-test.false) in
    last_glanced (rw z at c.loop-i.invariant) _ c.read_blank.ensures
