-- `layers::behind` meets its contract: no walk of a file stops it, and only an H changes the layer. Assumes nothing.
use native.Mathlib.Omega.{arith}
use Rattle.layers.proofs.Walks.{rows_less, behind_same, behind_other}
use Rattle.layers.proofs.behind.Goals as goal
use Rattle.layers.proofs.behind.Goals.{then-n-x-via-then-n-x, then-n-x-via-else-n-x+then-n-x-2}

pub returns-then-n-x : goal.returns-then-n-x
returns-then-n-x c =
    λ e l. elim c.then-n-x.branch [
      | then-n-x-via-then-n-x w ↦ absurd (omega arith)
      | then-n-x-via-else-n-x+then-n-x-2 w ↦ absurd (rows_less _ _ _ e w.if-n-x-2.true (omega arith))
    ]

pub returns-then-is_layer : goal.returns-then-is_layer
returns-then-is_layer c =
    let u = rw c.record_view.ensures at c.next-state.ensures in
    λ e l. behind_other _ _ _ e u (rw (← c.due.ensures) c.is_layer.ensures) c.if-is_layer.true c.layer_in.ensures

pub returns : goal.returns
returns c =
    let u = rw c.record_view.ensures at c.next-state.ensures in
    λ e l. behind_same _ _ _ e u (rw (← c.due.ensures) c.is_layer.ensures) c.if-is_layer.false
