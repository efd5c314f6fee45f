-- `numerals::digits` meets its contract. The loop's invariant: the digits before `b` came to `n`, and what the field says is what those from there on make
-- of it. Assumes nothing.
use Prim.Native.Nat.{◌^◌, ◌<◌}
use mathlib.Core.Path.{◌≡◌}
use lib.ListN.{drop}
use Rattle.fields.specs.Number.{digits_of, plain_of}
use Rattle.numerals.proofs.digits.Given as goal

abbrev pub invariant-loop-b : goal.invariant-loop-b
invariant-loop-b l = (l.n < 10 ^ l.b-index) × (plain_of l.f ≡ digits_of l.n (drop l.b-index l.f))
