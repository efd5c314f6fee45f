-- `numerals::signed` meets its contract: the digits are well formed, so the byte before them and the spaces before that decide.
-- Assumes nothing.
use mathlib.Core.Path.{◌≡◌, sym, ap, ◌∙◌}
use Prim.Native.Nat.{◌<◌}
use native.Mathlib.Omega.{arith}
use lib.IntN.{pos}
use Rattle.std.specs.Prelude.{Some}
use Rattle.fields.specs.Number.{number_of, minus}
use Rattle.fields.proofs.FromRight.{plain_small, taken_whole, taken_plain, taken_minus, minus_none, refused_minus, refused_other}
use Rattle.numerals.proofs.Signs.{size_is, size_minus}
use Rattle.numerals.proofs.signed.Goals as goal
use Rattle.numerals.proofs.signed.Goals.{Else-not-blanks, Start}

small : (c : Start) → c.args.size < 1000000
small c = plain_small c.requires

-- a "-" behind spaces
minus_said : (c : Else-not-blanks)
    → number_of c.args.f.now
    ≡ minus (Some (pos c.args.size))
minus_said c =
    taken_minus c.requires (omega arith) c.if-f-from-eq45.true (sym c.blanks.ensures ∙ c.if-not-blanks.false)

pub returns-then-from-eq0 : goal.returns-then-from-eq0
returns-then-from-eq0 c = ap Some (size_is _ (small (goal.at.returns-then-from-eq0 c).Start)) ∙ sym (taken_whole c.requires c.if-from-eq0.true)

pub returns-then-not-blanks : goal.returns-then-not-blanks
returns-then-not-blanks c =
    sym (refused_minus c.requires (omega arith) (sym c.blanks.ensures ∙ c.if-not-blanks.true))

pub returns-then-size-eq0 : goal.returns-then-size-eq0
returns-then-size-eq0 c = sym (minus_said (goal.at.returns-then-size-eq0 c).Else-not-blanks ∙ minus_none _ c.if-size-eq0.true)

pub returns-then-f-from-eq45 : goal.returns-then-f-from-eq45
returns-then-f-from-eq45 c =
    size_minus _ (small (goal.at.returns-then-f-from-eq45 c).Start) c.if-size-eq0.false ∙ sym (minus_said (goal.at.returns-then-f-from-eq45 c).Else-not-blanks)

pub returns-then-not-blanks-2 : goal.returns-then-not-blanks-2
returns-then-not-blanks-2 c =
    sym (refused_other c.requires (omega arith) c.if-f-from-eq45.false (sym c.blanks-2.ensures ∙ c.if-not-blanks-2.true))

pub returns : goal.returns
returns c =
    ap Some (size_is _ (small (goal.at.returns c).Start)) ∙ sym (taken_plain c.requires (sym c.blanks-2.ensures ∙ c.if-not-blanks-2.false))
