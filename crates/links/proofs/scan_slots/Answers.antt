-- `links::scan_slots` meets its contract: a slot that is passed is clean, and the one at which both loops are left equals an earlier one. Assumes nothing.
use mathlib.Core.Path.{◌≡◌, sym, ◌∙◌}
use native.Mathlib.Omega.{arith}
use borrow.Author.Tests.{eq-eqb, ne_eqb}
use Rattle.permitted.specs.Permitted.{is_zero}
use Rattle.links.specs.Links.{equal}
use Rattle.links.specs.Scanning.{clean}
use Rattle.links.proofs.Numbers.{asked, compared}
use Rattle.links.proofs.Scans.{none_clean, unlike_clean, like_not_clean, one_further, all_passed, stopped_at}
use Rattle.links.proofs.scan_slots.Goals as goal
use Rattle.links.proofs.scan_slots.Goals.{else-scan-test, then-scan-test+else-is_zero+then-loop-j-test+then-entry-slot}

pub scan-preserved-then-is_zero : goal.scan-preserved-then-is_zero
scan-preserved-then-is_zero g c = record {
  whole = c.scan.invariant.whole;
  passed = λ f p.
      let v = c.slot-entry in
      one_further (clean f) _ c.args.from c.scan.e (c.scan.invariant.passed f p)
      (none_clean f c.scan.e (asked is_zero v.type_inv (p c.scan.e v.result c.scan-test.true v.ensures) c.is_zero.ensures c.if-is_zero.true));
}

pub loop-j-preserved : goal.loop-j-preserved
loop-j-preserved g c = record {
  whole = c.loop-j.invariant.whole;
  unlike = λ f p k l.
      let v = c.slot-entry in
      let w = c.slot in
      let q = compared v.type_inv (p c.scan.e v.result c.scan-test.true v.ensures) w.type_inv (p c.loop-j.j w.result (omega (arith, c.scan-test.true, c.loop-j-test.true)) w.ensures) in
      one_further (λ j. equal (f c.scan.e) (f j)) _ 0 c.loop-j.j (λ j m o. c.loop-j.invariant.unlike f p j o) (sym q ∙ ne_eqb _ _ c.if-entry-slot.false) k (omega arith) l;
}

pub scan-preserved : goal.scan-preserved
scan-preserved g c = record {
  whole = c.loop-j.invariant.whole;
  passed = λ f p.
      one_further (clean f) _ c.args.from c.scan.e (c.scan.invariant.passed f p)
      (unlike_clean f c.scan.e (λ k l. c.loop-j.invariant.unlike f p k (omega (arith, l, c.loop-j-test.false))));
}

pub returns : goal.returns
returns g c =
    λ f p l.
    elim c.scan-test.branch [
      | else-scan-test w ↦
          let z : c.scan-test.at ≡ c.args.to = w.at-is ∙ c.scan.invariant.whole in
          rw z (l, all_passed f c.args.from c.args.to l (λ k m o. c.scan.invariant.passed f p k m (omega (arith, o, w.scan-test.false))))
      | then-scan-test+else-is_zero+then-loop-j-test+then-entry-slot w ↦
          let v = w.slot-entry in
          let y = w.slot in
          let a = p c.scan.e v.result w.scan-test.true v.ensures in
          let b = p w.loop-j.j y.result (omega (arith, w.scan-test.true, w.loop-j-test.true)) y.ensures in
          let q = sym (compared v.type_inv a y.type_inv b) ∙ eq-eqb _ _ w.if-entry-slot.true in
          rw w.at-is (
            c.scan.auto.e,
            stopped_at f c.args.from c.args.to l c.scan.e c.scan.auto.e w.scan-test.true (c.scan.invariant.passed f p)
                (like_not_clean f c.scan.e w.loop-j.j (asked is_zero v.type_inv a w.is_zero.ensures w.if-is_zero.false) w.loop-j-test.true q),
          )
    ]
