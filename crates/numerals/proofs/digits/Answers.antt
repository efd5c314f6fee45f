use mathlib.Core.Path.{sym, ap, ◌∙◌}
use native.Mathlib.Omega.{arith}
use lib.Dec.{lit<}
use Rattle.std.specs.Prelude.{Some}
use Rattle.numerals.proofs.Signs.{size_is}
use Rattle.numerals.proofs.Steps.{digits_none, zero_leads, digits_lead, digits_end, digits_more, digits_stop}
use Rattle.numerals.proofs.Steps.{digit_most, sum_more, sum_below}
use Rattle.numerals.proofs.digits.Goals as goal

pub returns-in_default : goal.returns-in_default
returns-in_default c = sym (digits_none _ c.in_default.len_below)

pub returns-then-first-f : goal.returns-then-first-f
returns-then-first-f c = sym (zero_leads _ c.in-len1-up.len_at_least c.if-first-f.true)

pub loop-b-init : goal.loop-b-init
loop-b-init c = (lit< tt, digits_lead _ c.in-len1-up.len_at_least c.if-first-f.false)

pub returns-then-not-is_ascii_digit : goal.returns-then-not-is_ascii_digit
returns-then-not-is_ascii_digit c =
    sym (c.loop-b.invariant.1 ∙ digits_stop _ _ _ c.loop-b-test.true _ c.is_ascii_digit.ensures.value c.if-not-is_ascii_digit.true)

pub loop-b-preserved : goal.loop-b-preserved
loop-b-preserved c =
    let i = c.loop-b.invariant in (
      rw c.from.ensures (sum_more _ _ _ i.0 (digit_most _ (sym c.is_ascii_digit.ensures.value ∙ c.if-not-is_ascii_digit.false))),
      i.1 ∙ rw c.from.ensures (digits_more _ _ _ c.loop-b-test.true _ c.is_ascii_digit.ensures.value c.if-not-is_ascii_digit.false),
    )

pub returns : goal.returns
returns c =
    ap Some (size_is _ (sum_below _ _ 6 c.loop-b.invariant.0 (omega (arith, c.requires))))
    ∙ sym (c.loop-b.invariant.1 ∙ digits_end _ _ _ c.loop-b-test.false)
