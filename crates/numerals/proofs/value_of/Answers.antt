-- `numerals::value_of` meets its contract: a lone zero is 0, a sure glance is the field's value, and else the general reader speaks.
-- Rattle finds all but the first. Assumes nothing.
use mathlib.Core.Path.{sym, ◌∙◌}
use Rattle.glances.proofs.AtGlance.{zero_alone}
use Rattle.numerals.proofs.value_of.Goals as goal

pub returns-then-lone_zero : goal.returns-then-lone_zero
returns-then-lone_zero c = sym (zero_alone _ (sym c.lone_zero.ensures ∙ c.if-lone_zero.true))
