-- `report::put_areas` meets its contract: an A puts its line, with the measure that is counted up to it, and any other record puts none.
-- Assumes nothing.
use mathlib.Core.Path.{◌≡◌, refl, sym, ◌∙◌, ap}
use native.Mathlib.Omega.{arith}
use lib.IntN.{pos}
use lib.ListN.{length, get_or}
use mir.Syntax.{w64}
use mir.ValLaws.{to_z-of_z}
use Prim.Native.Nat.{◌+◌}
use Rattle.std.proofs.Common.{rules}
use Rattle.walk.specs.States.{due_of, counts_at}
use Rattle.walk.proofs.Walking.{at_none, next_state, counts_small}
use Rattle.report.specs.Texts.{areas_text}
use Rattle.report.proofs.Areas.{area_more, none_more}
use Rattle.report.proofs.put_areas.Goals as goal
use Rattle.report.proofs.put_areas.Goals.{in-Area, in_default}

pub loop-k-init : goal.loop-k-init
unfolding areas_text counts_at
loop-k-init c =
    record {
      state = c.at_start-s.ensures ∙ at_none _;
      areas = refl;
      text = c.requires.empty;
      room = omega (arith, ap length c.requires.empty);
    }

pub put_area-requires : goal.put_area-requires
put_area-requires c = omega (arith, (counts_small c.args.file.now c.loop-k.k).areas, c.requires.few, c.records_of-k-end.ensures)

pub overflow_add-a : goal.overflow_add-a
overflow_add-a c = omega (arith, (counts_small c.args.file.now c.loop-k.k).areas, c.requires.few, c.records_of-k-end.ensures)

pub loop-k-preserved : goal.loop-k-preserved
loop-k-preserved c =
    let i = c.loop-k.invariant in
    let file = c.args.file.now in
    let ms = c.args.measures.now in
    let t = c.record_view-t.ensures in
    let next = next_state _ _ i.state (rw t at c.next-s.ensures) in
    elim c.match-due.branch [
      | in-Area w ↦
          let m : w.unwrap_or-m.result ≡ get_or ms c.loop-k.a (pos 0) = search rules in
          let more = area_more file ms c.loop-k.k (ap due_of (sym i.state) ∙ sym w.in-Area.ensures) in
          let put = rw (to_z-of_z w64 w.unwrap_or-m.result (record { sfits = w.unwrap_or-m.type_inv })) at w.put_area.ensures.text in
          record {
            state = next;
            areas = w.a-is ∙ ap (λ n. n + 1) i.areas ∙ sym more.areas;
            text = w.page-is ∙ put ∙ rw (i.text, w.shown_of.ensures, i.state, t, m, i.areas) (sym more.text);
            room = rw (w.page-is, w.a-is) (omega (arith, w.put_area.ensures.within));
          }
      | in_default w ↦
          let same = none_more file ms c.loop-k.k (λ l x e. w.in_default.not-Area l x (c.due.ensures ∙ ap due_of i.state ∙ e)) in
          record {
            state = next;
            areas = w.a-is ∙ i.areas ∙ sym same.areas;
            text = w.page-is ∙ i.text ∙ sym same.text;
            room = rw (w.page-is, w.a-is) i.room;
          }
    ]
