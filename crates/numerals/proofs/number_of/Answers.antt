-- `numerals::number_of` meets its contract: each refusal is one that the definition gives too, whatever stands to the left.
-- Assumes nothing.
use mathlib.Core.Path.{sym}
use Prim.Native.Nat.{◌<◌}
use native.Mathlib.Omega.{arith}
use lib.ListN.{length}
use Rattle.fields.proofs.FromRight.{too_wide, refused_endless, refused_zero, leads, leads_not}
use Rattle.numerals.proofs.number_of.Goals as goal
use Rattle.numerals.proofs.number_of.Goals.{Else-from-n}

pub returns-then-n-gt6 : goal.returns-then-n-gt6
returns-then-n-gt6 c = sym (too_wide _ c.if-n-gt6.true)

pub returns-then-from-n : goal.returns-then-from-n
returns-then-from-n c = sym (refused_endless c.digits_at_end-from.ensures (omega arith))

-- past the second test there is a digit
some : (c : Else-from-n) → c.digits_at_end-from.result.from < length c.args.f.now
some c = omega (arith, c.digits_at_end-from.ensures.digits.inside)

pub returns-then-f-from : goal.returns-then-f-from
returns-then-f-from c =
    let z = leads _ _ _ c.if-f-from.true in
    sym (refused_zero c.digits_at_end-from.ensures (some (goal.at.returns-then-f-from c).Else-from-n) z.0 z.1)

pub signed-requires : goal.signed-requires
signed-requires c =
    record {
      ends = c.digits_at_end-from.ensures;
      some = some (goal.at.signed-requires c).Else-from-n;
      narrow = c.if-n-gt6.false;
      alone = leads_not _ _ _ c.if-f-from.false;
    }
