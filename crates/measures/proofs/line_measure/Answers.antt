use mathlib.Core.Path.{◌≡◌, sym, ◌∙◌}
use Prim.Native.Nat.{◌-◌, ◌≤◌}
use native.Mathlib.Omega.{arith}
use Rattle.measures.specs.Sound.{added_up}
use Rattle.measures.specs.Walks.{walk_along}
use Rattle.records.proofs.Numbers.{record_past}
use Rattle.measures.proofs.Walking.{turn, sum_back, near_le, line_near, measure_none, measure_is}
use Rattle.measures.proofs.line_measure.Goals as goal

pub returns-then-file-line : goal.returns-then-file-line
returns-then-file-line c = sym (measure_none added_up c.args.file.now c.args.line (record_past _ _ c.if-file-line.true))

pub loop-left-init : goal.loop-left-init
unfolding walk_along
loop-left-init c =
    let z : c.point_count-left.result - c.point_count-left.result ≡ 0 = omega arith in
    (omega arith, omega arith, omega arith, rw z, λ h. omega arith)

pub overflow_add-k : goal.overflow_add-k
overflow_add-k c = omega (arith, c.if-file-line.false, c.point_count-left.ensures.1, c.loop-left.invariant.2)

pub walk_record-w-requires : goal.walk_record-w-requires
walk_record-w-requires c =
    let e = c.point_count-left.ensures.1 in (
      omega arith,
      rw c.loop-left.invariant.3
          (near_le 900000000000000000 (line_near c.args.file.now c.args.line (c.point_count-left.result - c.loop-left.left)) (omega arith)),
    )

pub loop-left-preserved : goal.loop-left-preserved
loop-left-preserved c =
    let l = c.loop-left.invariant in
    let p : c.min-part.result ≤ 7 = omega arith in
    let q : c.min-part.result ≤ c.loop-left.left = omega arith in (
      omega arith,
      omega arith,
      omega arith,
      turn added_up _ _ _ c.loop-left.left c.loop-left.k c.min-part.result l.1
          l.0 q p (l.4 (omega arith)) l.3 c.record_view.ensures c.walk_record-w.ensures,
      λ h. omega (arith, l.4 (omega arith)),
    )

pub returns : goal.returns
returns c =
    let n = c.point_count-left.ensures in
    let z : c.point_count-left.result - c.loop-left.left ≡ c.point_count-left.result = omega arith in
    sum_back c.args.file.now c.args.line c.point_count-left.result n.1 (c.loop-left.invariant.3 ∙ rw z)
    ∙ measure_is added_up c.args.file.now c.args.line n.0
