-- `judge::outside_at` meets its contract: by the line's left and right area, its measure is added, or taken away, or does not count.
-- Assumes nothing.
use mathlib.Core.Bool.{Bool}
use mathlib.Core.Path.{◌≡◌, ◌∙◌}
use mir.Syntax.{w32}
use mir.Val.{to_z, of_z}
use Rattle.permitted.specs.Permitted.{is_zero}
use Rattle.judge.proofs.Adding.{Sided, sided, outside_by, measure_passed, measure_fits, measure_turned}
use Rattle.judge.proofs.outside_at.Goals as goal
use Rattle.judge.proofs.outside_at.Goals.{After-is_zero-right}

-- which of the line's two areas are 0
sides : (c : After-is_zero-right) {a b : Bool} → a ≡ is_zero (to_z w32 (of_z w32 c.value_at.result)) → b ≡ is_zero (to_z w32 (of_z w32 c.value_at-2.result))
    → Sided c.args.file.now c.args.table.now c.args.l c.args.n a b
sides c p q = sided _ _ _ _ c.requires.0 c.line_of-r.ensures c.value_at.type_inv c.value_at.ensures p c.value_at-2.type_inv c.value_at-2.ensures q

pub returns-in-true-false : goal.returns-in-true-false
returns-in-true-false c =
    measure_passed _ _ _ _ c.requires.0 c.requires.1 c.line_measure.ensures
    ∙ outside_by _ _ _ _ (sides (goal.at.returns-in-true-false c).After-is_zero-right c.in-true-false.ensures c.in-true-false.ensures')

pub overflow_sub-result : goal.overflow_sub-result
overflow_sub-result c = measure_fits _ _ _ _ c.requires.0 c.requires.1 c.line_measure-in-false-true.ensures

pub returns-in-false-true : goal.returns-in-false-true
returns-in-false-true c =
    measure_turned _ _ _ _ c.requires.0 c.requires.1 c.line_measure-in-false-true.ensures
    ∙ outside_by _ _ _ _ (sides (goal.at.returns-in-false-true c).After-is_zero-right c.in-false-true.ensures c.in-false-true.ensures')

pub returns-in_default : goal.returns-in_default
returns-in_default c = outside_by _ _ _ _ (sides (goal.at.returns-in_default c).After-is_zero-right c.in_default.ensures c.in_default.ensures')

pub returns-in_default-2 : goal.returns-in_default-2
returns-in_default-2 c = outside_by _ _ _ _ (sides (goal.at.returns-in_default-2 c).After-is_zero-right c.in_default.ensures c.in_default.ensures')
