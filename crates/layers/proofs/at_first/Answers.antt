-- `layers::at_first` meets its contract, whatever the file. Assumes nothing.
use Rattle.layers.proofs.Walks.{first_is}
use Rattle.layers.proofs.at_first.Goals as goal

pub returns : goal.returns
returns c = λ file. first_is file _ _ c.at_start.ensures c.layer_in.ensures
