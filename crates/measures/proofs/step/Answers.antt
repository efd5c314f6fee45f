-- `measures::step` meets its contract: every product, difference and sum fits, since each coordinate is 166665 at most.
-- Assumes nothing.
use mir.Syntax.{w64}
use Rattle.measures.proofs.Bounds.{read_back}
use Rattle.measures.proofs.Stepping.{east_fits, north_fits, difference_fits, sum_fits, step_sum}
use Rattle.measures.proofs.step.Goals as goal

pub overflow_mul-result : goal.overflow_mul-result
overflow_mul-result c = east_fits c.requires.0 c.requires.1 c.requires.2

pub overflow_mul-result-2 : goal.overflow_mul-result-2
overflow_mul-result-2 c = north_fits c.requires.0 c.requires.1 c.requires.2

pub overflow_sub-result : goal.overflow_sub-result
overflow_sub-result c = difference_fits c.requires.0 c.requires.1 c.requires.2

pub overflow_add-result : goal.overflow_add-result
overflow_add-result c = sum_fits c.requires.0 c.requires.1 c.requires.2

pub returns : goal.returns
returns c =
    rw (
      step_sum c.requires.0 c.requires.1 c.requires.2,
      read_back w64 c.requires.1 tt,
      read_back w64 c.requires.2 tt,
    )
