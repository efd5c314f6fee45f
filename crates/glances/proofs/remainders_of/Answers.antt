-- `glances::remainders_of` meets its contract: it adds up what the definition does, byte by byte. Assumes nothing.
use native.Mathlib.Omega.{arith}
use Rattle.glances.proofs.Remainders.{five_sum}
use Rattle.glances.proofs.remainders_of.Goals as goal

pub returns : goal.returns
returns c =
    omega (arith, five_sum c.args.f.now c.requires)
