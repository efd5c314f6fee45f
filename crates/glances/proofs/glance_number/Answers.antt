-- `glances::glance_number` meets its contract: the field's bytes are looked at where they lie within `s`. Assumes nothing.
use mathlib.Core.Path.{refl, sym, ap}
use Rattle.glances.specs.Glimpse.{glimpse_of}
use Rattle.fields.proofs.Answers.{number_outside, number_within}
use Rattle.glances.proofs.glance_number.Goals as goal

pub returns-in_err-bytes_at : goal.returns-in_err-bytes_at
returns-in_err-bytes_at c = rw c.from_residual.ensures (ap glimpse_of (number_outside _ _ _ (sym c.in_err-bytes_at.ensures) refl))

pub returns : goal.returns
returns c = rw (← number_within _ _ _ c.in_ok-bytes_at.ensures.0 c.in_ok-bytes_at.ensures.1) c.glance_in.ensures
