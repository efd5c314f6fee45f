-- `writers::write_number` meets its contract: what fits is written by `fill`, and what does not is refused before anything is written.
-- Assumes nothing.
use mathlib.Core.Bool.{true}
use mathlib.Core.Path.{◌≡◌, sym, ap, ◌∙◌}
use Prim.Native.Nat.{◌+◌, ◌-◌, ◌≤◌}
use native.Mathlib.Omega.{arith}
use lib.ListN.{length}
use mir.Facts.{to_z-of_z}
use Rattle.fields.specs.Answer.{number_fits}
use Rattle.fields.specs.Number.{holds}
use Rattle.fields.specs.Spelling.{left_of}
use Rattle.writers.proofs.Answers.{number_unfit, number_fit, wrote_nothing, wrote_all}
use Rattle.fields.proofs.Columns.{spell_length}
use Rattle.writers.proofs.Filling.{spell_is}
use Rattle.fields.proofs.Places.{inside_bounds}
use Rattle.writers.proofs.write_number.Goals as goal
use Rattle.writers.proofs.write_number.Goals.{After-in_range, After-left_of, Else-not-in_range, Else-not-inside}

-- past the first test the field lies inside
bounds : (c : Else-not-inside) → (1 ≤ c.args.column) × (c.args.column - 1 + c.args.width ≤ length c.args.buf.now)
bounds c = inside_bounds _ _ _ (sym c.inside.ensures ∙ c.if-not-inside.false)

-- the answer to the second test, on the value that the machine reads back
ranged : (c : After-in_range) → c.in_range.result ≡ holds c.args.width c.args.value
ranged c = c.in_range.ensures ∙ ap (holds c.args.width) (to_z-of_z c.ranges.value)

-- past the second test the value fits
fits : (c : Else-not-in_range)
    → number_fits c.args.buf.now c.args.column
    c.args.width c.args.value
    ≡ true
fits c =
    number_fit _ _ _ c.inside.ensures _ c.if-not-inside.false (c.in_range.ensures ∙ ap (holds c.args.width) (to_z-of_z c.ranges.value))
    ∙ c.if-not-in_range.false

-- what is to be written is the value
left_is : (c : After-left_of) → c.left_of.result ≡ left_of c.args.value
left_is c = c.left_of.ensures ∙ ap left_of (to_z-of_z c.ranges.value)

pub returns-then-not-inside : goal.returns-then-not-inside
returns-then-not-inside c = wrote_nothing _ _ _ _ (number_unfit _ _ _ c.inside.ensures _ c.if-not-inside.true)

pub returns-then-not-in_range : goal.returns-then-not-in_range
returns-then-not-in_range c =
    wrote_nothing _ _ _ _
    (number_fit _ _ _ c.inside.ensures _ c.if-not-inside.false (ranged (goal.at.returns-then-not-in_range c).After-in_range)
    ∙ c.if-not-in_range.true)

pub overflow_sub-column : goal.overflow_sub-column
overflow_sub-column c = let p = bounds (goal.at.overflow_sub-column c).Else-not-inside in omega arith

pub fill-requires : goal.fill-requires
fill-requires c = let p = bounds (goal.at.fill-requires c).Else-not-inside in omega arith

pub returns : goal.returns
returns c =
    wrote_all _ _ _ _ (fits (goal.at.returns c).Else-not-in_range) _ _ (spell_length _ _)
    (c.fill.ensures ∙ rw (spell_is c.args.width c.args.value (left_is (goal.at.returns c).After-left_of)))
