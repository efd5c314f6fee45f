use mathlib.Core.Path.{◌≡◌, refl, ◌∙◌, ap}
use native.Mathlib.Omega.{arith}
use mir.Facts.{to_z-of_z}
use mir.Syntax.{w64}
use borrow.Author.Rules.{rules}
use Rattle.records.specs.Columns.{points_x, points_y, slot_column}
use Rattle.records.proofs.Named.{start_there}
use Rattle.measures.specs.Points.{pair_by}
use Rattle.measures.specs.Sound.{added_up}
use Rattle.measures.specs.Walks.{Small, far, walk_along}
use Rattle.measures.proofs.Stepping.{back}
use Rattle.measures.proofs.Walking.{near_le, record_near, added_small, along_next}
use Rattle.measures.proofs.walk_record.Goals as goal
use Rattle.measures.proofs.walk_record.Goals.{After-coordinate-x, After-coordinate-y}

-- X and Y, as the machine hands them on
x-is : (c : After-coordinate-x)
    → back c.coordinate-x.result
    ≡ added_up c.args.s.now (slot_column points_x c.loop-i.i)
x-is c =
    to_z-of_z {w = w64} (record { sfits = c.coordinate-x.type_inv }) ∙ c.coordinate-x.ensures
    ∙ ap (added_up _) (c.slot_column.ensures.0 ∙ start_there 1 10 7 _ (omega arith))

y-is : (c : After-coordinate-y)
    → back c.coordinate-y.result
    ≡ added_up c.args.s.now
    (slot_column points_y c.loop-i.i)
y-is c =
    to_z-of_z {w = w64} (record { sfits = c.coordinate-y.type_inv }) ∙ c.coordinate-y.ensures
    ∙ ap (added_up _) (c.slot_column-in-loop-i.ensures.0 ∙ start_there 6 10 7 _ (omega arith))

pub loop-i-init : goal.loop-i-init
unfolding walk_along
loop-i-init c = refl

pub step-at-requires : goal.step-at-requires
step-at-requires c =
    let x : Small far (back c.coordinate-x.result) = rw (x-is (goal.at.step-at-requires c).After-coordinate-x) (added_small _ _) in
    let y : Small far (back c.coordinate-y.result) = rw (y-is (goal.at.step-at-requires c).After-coordinate-y) (added_small _ _) in (
      rw c.loop-i.invariant (near_le 1000000000000000000 (record_near c.args.s.now c.requires.1 c.loop-i.i) (omega arith)),
      search rules,
      search rules,
    )

pub loop-i-preserved : goal.loop-i-preserved
unfolding pair_by
loop-i-preserved c =
    c.step-at.ensures
    ∙ rw (x-is (goal.at.loop-i-preserved c).After-coordinate-x, y-is (goal.at.loop-i-preserved c).After-coordinate-y, c.loop-i.invariant) (along_next c.args.w (pair_by added_up c.args.s.now) c.loop-i.i)
