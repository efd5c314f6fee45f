-- `fields::inside` meets its contract: the three tests are the two of `is_inside`, asked so that no sum can wrap.
use Rattle.std.proofs.Common.{sym, arith, ◌∙◌}
use borrow.Author.Tests.{leb-true, leb-false}
use Rattle.fields.proofs.Places.{inside_none, inside_short, inside_rest}
use Rattle.fields.proofs.inside.Goals as goal
use Rattle.fields.proofs.inside.Goals.{then-column-ge1, else-column-ge1}

pub returns-then-column-s : goal.returns-then-column-s
returns-then-column-s c =
    elim c.if-column-ge1.branch [
      | then-column-ge1 w ↦ inside_rest _ _ _ w.if-column-ge1.true (leb-true _ _ (sym w.value-is ∙ c.if-column-s.true))
      | else-column-ge1 w ↦ absurd (omega (arith, leb-true _ _ (sym w.value-is ∙ c.if-column-s.true)))
    ]

pub returns-else-column-s : goal.returns-else-column-s
returns-else-column-s c =
    elim c.if-column-ge1.branch [
      | then-column-ge1 w ↦
          c.if-column-s.false
          ∙ sym (inside_short _ _ _ w.if-column-ge1.true (omega (arith, leb-false _ _ (sym w.value-is ∙ c.if-column-s.false))))
      | else-column-ge1 w ↦ c.if-column-s.false ∙ sym (inside_none _ _ _ (omega arith))
    ]
