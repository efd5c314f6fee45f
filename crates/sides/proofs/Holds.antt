-- What stage 6 says of an L whose checks hold, by name: 18 of line n's left area and of its right one. Assumes nothing.
use mathlib.Core.Bool.{true, false}
use mathlib.Core.List.{List}
use mathlib.Core.Path.{◌≡◌}
use Prim.Native.Nat.{ℕ}
use Rattle.verdict.proofs.Holding.{Holding}
use Rattle.records.specs.Columns.{span_of, left_area, right_area}
use Rattle.layers.specs.declared.Layer.{Layer}
use Rattle.sides.specs.Sides.{side_listed, list_checks}

module _ (file t : List ℕ) (l : Layer) (r n : ℕ) (h : Holding (list_checks file t l r n)) where
  pub left_listed : side_listed file t l r (span_of left_area) true n ≡ true
  unfolding list_checks
  left_listed = h.0

  pub right_listed : side_listed file t l r (span_of right_area) false n ≡ true
  unfolding list_checks
  right_listed = h.1.0
