-- `judge::bases_of` meets its contract: the rows stand first, then the lines. Assumes nothing.
use mathlib.Core.Path.{refl}
use Rattle.layers.specs.Passing.{bases_of}
use Rattle.judge.proofs.bases_of.Goals as goal

pub returns : goal.returns
unfolding bases_of
returns c = refl
