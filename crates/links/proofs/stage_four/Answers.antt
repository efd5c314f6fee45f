use mathlib.Core.Path.{refl}
use native.Mathlib.Omega.{arith}
use Rattle.layers.proofs.Walks.{stands, quiet_most, are_quiet, stands_behind, stands_past}
use Rattle.layers.proofs.Stages.{passed_first, passed_more, passed_past}
use Rattle.links.specs.Links.{links_at, fifth}
use Rattle.links.proofs.StageLaws.{between_fine}
use Rattle.links.proofs.stage_four.Goals as goal

pub loop-x-init : goal.loop-x-init
loop-x-init c = (stands _ _ _ (c.at_first-x.ensures _) (omega arith), passed_first fifth (links_at _ _) _ _ _ (c.at_first-x.ensures _))

pub loop-x-preserved : goal.loop-x-preserved
loop-x-preserved c =
    let k = rw c.records_of-n.ensures.0 at c.loop-x-test.true in
    let y = c.behind-x.ensures c.loop-x.invariant.0.here k in
    let p = stands_behind _ _ _ c.loop-x.invariant.0 k y in
    let h = rw c.due.ensures at c.in_ok-judge_record.ensures in
    let f = passed_more fifth (links_at _ _) _ _ _ c.loop-x.invariant.0.here y h refl c.loop-x.invariant.1 in (
      stands_past _ _ _ p _ c.past_quiet-x.ensures,
      passed_past fifth (links_at _ _) _ _ _ p.here _ c.past_quiet-x.ensures
          (between_fine _ _ c.behind-x.result c.between.ensures (quiet_most _ _ _) (are_quiet _ _ _)) f,
    )
