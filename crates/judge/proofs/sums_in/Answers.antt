-- `judge::sums_in` meets its contract: the lines' measures are kept once, for both sums. Assumes nothing.
use mathlib.Core.Path.{◌∙◌, ap₂}
use lib.IntN.{ℤ}
use mir.Facts.{to_z-of_z}
use mir.Syntax.{w64}
use Rattle.entries.proofs.Keeping.{kept_all}
use Rattle.judge.proofs.sums_in.Goals as goal

pub areas_sum-requires : goal.areas_sum-requires
areas_sum-requires c = (kept_all _ _ _ c.keep.ensures c.requires.sound, c.requires)

pub outside_sum-requires : goal.outside_sum-requires
outside_sum-requires c = (kept_all _ _ _ c.keep.ensures c.requires.sound, c.requires)

pub returns : goal.returns
returns c =
    let pair : ℤ → ℤ → ℤ × ℤ = λ x y. (x, y) in
    ap₂ pair (to_z-of_z {w = w64} (record { sfits = c.areas_sum.type_inv }) ∙ c.areas_sum.ensures)
    (to_z-of_z {w = w64} (record { sfits = c.outside_sum.type_inv }) ∙ c.outside_sum.ensures)
