-- What stage 4 says of a record whose checks all hold, by name: an L's two sides, and the entries of a loop record. Assumes nothing.
use mathlib.Core.Bool.{true, false, ◌||◌}
use mathlib.Core.List.{List}
use mathlib.Core.Path.{◌≡◌}
use Prim.Native.Nat.{ℕ, ◌<◌}
use Rattle.records.specs.Columns.{Span, span_of, number_on, value_at}
use Rattle.records.specs.Columns as column
use Rattle.verdict.proofs.Holding.{Holding, both_hold, slot_holds}
use Rattle.layers.specs.declared.Layer.{Layer}
use Rattle.layers.specs.Naming.{names, names_line}
use Rattle.links.specs.Links.{line_end_checks, side_checks, line_checks, loop_entry, entry_checks}
use Rattle.permitted.specs.Permitted.{is_zero}

-- 11 of the side whose code stands at column c and whose area number stands at column a
side_named : (file t : List ℕ) (l : Layer) (r : ℕ) (c a : Span) → Holding (side_checks file t l r c a)
    → (is_zero (number_on file r a) || names l.areas (number_on file r a)) ≡ true
unfolding side_checks
side_named file t l r c a h = h.1.0

module _ (file t : List ℕ) (l : Layer) (r : ℕ) (h : Holding (line_checks file t l r)) where
  -- behind an L's two ends stand its two sides
  sides_hold : Holding (side_checks file t l r (span_of column.left_code) (span_of column.left_area))
      × Holding (side_checks file t l r (span_of column.right_code) (span_of column.right_area))
  unfolding line_checks
  sides_hold =
      let e = (both_hold (line_end_checks file l r (span_of column.start_node) (span_of column.start_link) false) _ h).1 in
      both_hold (side_checks file t l r (span_of column.left_code) (span_of column.left_area))
      (side_checks file t l r (span_of column.right_code) (span_of column.right_area))
      (both_hold (line_end_checks file l r (span_of column.end_node) (span_of column.end_link) true) _ e).1

  -- 11 of an L's left area and of its right one
  pub left_named : (is_zero (value_at file r column.left_area) || names l.areas (value_at file r column.left_area)) ≡ true
  left_named = side_named file t l r (span_of column.left_code) (span_of column.left_area) sides_hold.0

  pub right_named : (is_zero (value_at file r column.right_area) || names l.areas (value_at file r column.right_area)) ≡ true
  right_named = side_named file t l r (span_of column.right_code) (span_of column.right_area) sides_hold.1

-- 11 of slot i of a loop record
pub entry_named : (file : List ℕ) (l : Layer) (r : ℕ) → Holding (entry_checks file l r)
    → (i : ℕ) → i < 12 → (is_zero (loop_entry file r i) || names_line l.lines (loop_entry file r i)) ≡ true
unfolding entry_checks
entry_named file l r h i m = (slot_holds _ 12 h i m).0
