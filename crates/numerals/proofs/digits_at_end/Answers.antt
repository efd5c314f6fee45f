use mathlib.Core.Path.{sym, ◌∙◌}
use native.Mathlib.Nat.{sub_self}
use Rattle.fields.proofs.FromRight.{digits_none, digits_more}
use Rattle.fields.proofs.Unspelled.{digit_range}
use Rattle.numerals.proofs.digits_at_end.Goals as goal

pub loop-i-init : goal.loop-i-init
loop-i-init c = (digits_none _, rw sub_self)

pub loop-i-preserved : goal.loop-i-preserved
loop-i-preserved c =
    let d = digit_range _ (sym c.is_ascii_digit.ensures.value ∙ c.if-not-is_ascii_digit.false) in
    rw c.from.ensures (digits_more _ _ _ _ c.loop-i-test.true c.loop-i.invariant.1 c.loop-i.invariant.0 d.0 d.1)
