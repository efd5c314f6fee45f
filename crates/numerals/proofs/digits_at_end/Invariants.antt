-- `numerals::digits_at_end` meets its contract. The loop's invariant: from index `i` on there are digits
-- alone, they say `size`, and the next digit to the left counts `unit`. Assumes nothing.
use mathlib.Core.Path.{◌≡◌}
use Prim.Native.Nat.{◌-◌, ◌^◌}
use lib.ListN.{length}
use Rattle.fields.specs.Ending.{DigitsFrom}
use Rattle.numerals.proofs.digits_at_end.Given as goal

abbrev pub invariant-loop-i : goal.invariant-loop-i
invariant-loop-i l = DigitsFrom l.f l.i l.size × (l.unit ≡ 10 ^ (length l.f - l.i))
