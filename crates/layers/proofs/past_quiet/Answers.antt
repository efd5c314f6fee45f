-- `layers::past_quiet` meets its contract: those that are left are what the file has behind the walk. Assumes nothing.
use Rattle.layers.proofs.Walks.{quiet_some}
use Rattle.layers.proofs.past_quiet.Goals as goal

pub returns : goal.returns
returns c =
    let m = rw (c.saturating_sub-left.ensures, c.records_of.ensures.0) at c.min.ensures in
    quiet_some _ _ _ m c.pass_quiet-p.ensures
