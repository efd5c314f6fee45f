-- `links::at_node` meets its contract: both numbers of the pair are compared with the node's. Assumes nothing.
use native.Mathlib.Omega.{arith}
use mir.Facts.{to_z-of_z}
use Rattle.links.specs.Links.{at_node}
use Rattle.links.proofs.Numbers.{compared}
use Rattle.links.proofs.at_node.Goals as goal

pub returns-then-x-value_at : goal.returns-then-x-value_at
unfolding at_node
returns-then-x-value_at c =
    let u = c.value_at in
    let x = compared c.slot_at-x.type_inv c.slot_at-x.ensures u.type_inv u.ensures in
    let w = c.value_at-then-x-value_at in
    let y = compared c.slot_at-y.type_inv c.slot_at-y.ensures w.type_inv w.ensures in
    grind (arith, to_z-of_z)
