-- `measures::point_count` meets its contract: a number of width 6 that is not below 0 is the count. Assumes nothing.
use mathlib.Core.Path.{◌∙◌}
use Rattle.measures.proofs.Walking.{count_is, count_le}
use Rattle.measures.proofs.point_count.Goals as goal

pub returns : goal.returns
returns c =
    let e = c.unwrap_or.ensures ∙ count_is _ _ c.try_from.result (record { sfits = c.value_at.type_inv }) c.value_at.ensures c.try_from.ensures in
    (e, rw e (count_le _ _))
