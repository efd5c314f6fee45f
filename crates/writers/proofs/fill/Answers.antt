use mathlib.Core.Path.{sym, ◌∙◌}
use native.Mathlib.Omega.{arith}
use Rattle.writers.proofs.Filling.{fill_step, fill_done}
use Rattle.writers.proofs.fill.Goals as goal

pub loop-k-preserved : goal.loop-k-preserved
loop-k-preserved c =
    c.loop-k.invariant
    ∙ rw (c.last_of.ensures, c.rest_of-l.ensures) (fill_step c.loop-k.buf c.args.at c.loop-k.k c.loop-k.l c.loop-k-test.true (omega arith))

pub returns : goal.returns
returns c = sym (c.loop-k.invariant ∙ fill_done c.loop-k.buf c.args.at c.loop-k.k c.loop-k.l c.loop-k-test.false)
