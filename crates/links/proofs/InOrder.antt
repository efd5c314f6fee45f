-- The rules of stage 4 stand in the order of RULES 6.1, all are of the fifth turn, and every one has a number above 9. Assumes nothing.
use mathlib.Core.Bool.{Bool, true, false, cond, ◌&&◌}
use mathlib.Core.List.{List, [], ◌∷◌, ◌++◌}
use mathlib.Core.Path.{◌≡◌, refl}
use Prim.Native.Nat.{ℕ, ◌+◌, ◌-◌, ◌*◌, ◌<◌}
use native.Mathlib.Omega.{arith}
use lib.Dec.{eqb, leb, ltb}
use borrow.Author.Tests.{lt-ltb, ltb-true}
use Rattle.records.specs.Columns.{value_at}
use Rattle.records.specs.Columns as column
use Rattle.verdict.specs.Rules.{check, spread}
use Rattle.verdict.specs.Order.{Sorted}
use Rattle.verdict.proofs.Numbers.{ten_to18, Numbered}
use Rattle.verdict.proofs.Orders.{Of, and_both}
use Rattle.permitted.specs.Permitted.{size}
use Rattle.rules.specs.declared.Due.{Due}
use Rattle.rules.specs.declared.Due.TheVariants as due
use Rattle.walk.specs.States.{due_of}
use Rattle.layers.specs.declared.Bases.{Bases}
use Rattle.layers.specs.declared.Layer.{Layer}
use Rattle.layers.specs.declared.Standing.{Standing}
use Rattle.layers.proofs.Stages.{Orderly, stage_sorted, stage_of_lem, stage_numbered}
use Rattle.links.specs.Links.{node_slot, node_checks, line_end_checks, side_checks, line_checks, at_node, first_point_checks, last_point_checks, point_checks}
use Rattle.links.specs.Links.{entry_checks, link_checks, links_at, fifth, stage_four}

-- ---- a record's checks

node_orderly : (file t : List ℕ) (l : Layer) (r : ℕ) → Orderly (node_checks file t l r)
unfolding node_checks node_slot spread
node_orderly file t l r = (refl, refl)

line_orderly : (file t : List ℕ) (l : Layer) (r : ℕ) → Orderly (line_checks file t l r)
unfolding line_checks line_end_checks side_checks
line_orderly file t l r = (refl, refl)

entry_orderly : (file : List ℕ) (l : Layer) (r : ℕ) → Orderly (entry_checks file l r)
unfolding entry_checks spread
entry_orderly file l r = (refl, refl)

-- a first point has more points behind it, so the last one's column is behind its own
two_orderly : (left : ℕ) (a b x y : Bool) → (a ≡ true → 1 < left)
    → Orderly (cond a (check 1 12 x ∷ []) [] ++ cond b (check (1 + 10 * (left - 1)) 12 y ∷ []) [])
two_orderly left true true x y h =
    let l : 1 < left = h refl in
    (rw (lt-ltb 1 (1 + 10 * (left - 1)) (omega (arith, l))), refl)
two_orderly left true false x y h = (refl, refl)
two_orderly left false true x y h = (refl, refl)
two_orderly left false false x y h = (refl, refl)

point_orderly : (file : List ℕ) (l : Layer) (q r left : ℕ) → Orderly (point_checks file l q r left)
unfolding point_checks first_point_checks last_point_checks
point_orderly file l q r left =
    two_orderly left (ltb 1 left && eqb left (size (value_at file q column.line_points))) (ltb 0 left && leb left 7)
    (at_node file l (value_at file q column.start_node) r 0) (at_node file l (value_at file q column.end_node) r (left - 1))
    (λ h. ltb-true 1 left (and_both (ltb 1 left) (eqb left (size (value_at file q column.line_points))) h).0)

link_orderly : (d : Due) (file t : List ℕ) (l : Layer) (line r : ℕ) → Orderly (link_checks d file t l line r)
link_orderly (due.Mesh last) file t l line r = (refl, refl)
link_orderly (due.Layer last) file t l line r = (refl, refl)
link_orderly (due.Node layer last) file t l line r = node_orderly file t l r
link_orderly (due.Line layer last letters) file t l line r = line_orderly file t l r
link_orderly (due.Coordinates left) file t l line r = point_orderly file l _ r left
link_orderly (due.Area layer last) file t l line r = (refl, refl)
link_orderly (due.Loop last count left) file t l line r = entry_orderly file l r

-- ---- the stage

at_orderly : (file t : List ℕ) (x : Standing) → Orderly (links_at file t x)
at_orderly file t x = link_orderly (due_of x.state) file t x.layer x.state.layer.line (x.records + 1)

module _ (file t : List ℕ) (b : Bases) where
  pub four_sorted : Sorted (stage_four file t b)
  unfolding stage_four
  four_sorted = stage_sorted fifth (links_at file t) file t b (at_orderly file t)

  pub four_of : Of fifth (stage_four file t b)
  unfolding stage_four
  four_of = stage_of_lem fifth (links_at file t) file t b

  pub four_numbered : Numbered ten_to18 (stage_four file t b)
  unfolding stage_four
  four_numbered = stage_numbered fifth (links_at file t) file t b (at_orderly file t)
