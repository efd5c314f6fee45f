-- The line of a coordinate record, and the records that stage 4 passes. Assumes nothing.
use mathlib.Core.List.{List}
use mathlib.Core.Path.{◌≡◌, sym}
use Prim.Native.Nat.{ℕ, ◌+◌, ◌-◌, ◌*◌, ◌/◌, ◌≤◌, ◌<◌}
use native.Mathlib.Omega.{arith}
use lib.IntN.{ℤ}
use lib.ListN.{get_or}
use borrow.Author.Tests.{lt-ltb}
use Rattle.records.specs.Columns.{value_at}
use Rattle.records.specs.Columns as column
use Rattle.verdict.specs.Rules.{Verdict, Fine, first_broken, block}
use Rattle.permitted.specs.Permitted.{size}
use Rattle.rules.specs.declared.Due.{Due}
use Rattle.rules.specs.declared.Due.TheVariants as due
use Rattle.walk.specs.declared.State.{State}
use Rattle.walk.specs.Quiet.{quiet_due, Quiet}
use Rattle.layers.specs.declared.Layer.{Layer}
use Rattle.layers.specs.declared.Standing.{Standing}
use Rattle.layers.specs.Standing.{past_by}
use Rattle.layers.proofs.Stages.{verdict_at}
use Rattle.links.specs.Links.{point_checks, link_checks, links_at, fifth}
use Rattle.links.specs.Scanning.{Between}
use Rattle.links.proofs.LineLaws.{InWord, handed_on, points_later}

-- ---- one back from a count

pub line_is : (t : List ℕ) (a n : ℕ) {i r : ℕ} → i ≡ n - 1 → r ≡ get_or t (a + i) 0 → r ≡ get_or t (a + (n - 1)) 0
line_is t a n e h = rw (← e) h

-- ---- coordinates: q is the record of the line's L

points_arm : (file t : List ℕ) (l : Layer) (line r : ℕ) {d : Due} {left q : ℕ} {v : Verdict}
    → d ≡ due.Coordinates left → q ≡ get_or t (l.line + (line - 1)) 0
    → v ≡ first_broken (block fifth r (point_checks file l q r left)) → v ≡ first_broken (block fifth r (link_checks d file t l line r))
points_arm file t l line r e f h = rw (e, ← f) h

module _ (file t : List ℕ) (l : Layer) (s : State) where
  -- n is the line's number of points: fewer are left, and more than seven before each of the records
  pub between_some : {q n : ℕ} {z : ℤ} → 7 < s.line.points → s.line.points < n → q ≡ get_or t (l.line + (s.layer.line - 1)) 0
      → InWord z → z ≡ value_at file q column.line_points → n ≡ size (handed_on z) → Between file t l s ((s.line.points - 1) / 7)
  between_some p u f ok e g = record {
    fine = λ j r i.
        let d : quiet_due s j ≡ due.Coordinates (s.line.points - 7 * j) = rw (lt-ltb 0 s.line.points (omega arith)) in
        sym (points_arm file t l s.layer.line r d f (points_later file l _ r (s.line.points - 7 * j) r (omega arith) (omega arith) ok e g));
  }

-- ---- records that are passed

-- where the walk stands at x, and the next h are quiet
pub between_fine : (file t : List ℕ) (x : Standing) {m h : ℕ} → Between file t x.layer x.state m → h ≤ m → Quiet x.state h
    → (j : ℕ) → j < h → verdict_at fifth (links_at file t) (past_by x j) ≡ Fine
between_fine file t x w u q j i = rw (q.quiet j i) (w.fine j (x.records + j + 1) (omega arith))
