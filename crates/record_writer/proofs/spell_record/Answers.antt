-- `record_writer::spell_record` meets its contract: each arm writes the next field of the layout, and what does not fit leaves no line.
-- Assumes nothing.
use mathlib.Core.Path.{refl, sym, ◌∙◌}
use native.Mathlib.Omega.{arith}
use lib.IntN.{pos}
use lib.ListN.{get_or}
use mir.Facts.{to_z-of_z}
use mir.Syntax.{w32}
use borrow.Author.Rules.{rules}
use Rattle.records.proofs.Layouts.{stands_in}
use Rattle.record_writer.proofs.Lines.{start, room, ends, no_line, letters_next, number_next, number_unfit, name_next, name_unfit}
use Rattle.record_writer.proofs.Lines.{blank_fits, blank_next, mark_unfit, code_next, code_unfit, whole_line}
use Rattle.std.proofs.lemmas.Result.{err_from_is_err_and}
use Rattle.record_writer.proofs.spell_record.Goals.{in-Letters, in-Number+in_ok-write_number-in-Number, in-Name+in_ok-write_name-in-Name}
use Rattle.record_writer.proofs.spell_record.Goals.{in-Blank+in_ok-write_blank-in-Blank, in-Code+else-not-may_mark+in_ok-write_code-in-Code}
use Rattle.record_writer.proofs.spell_record.Goals as goal

pub loop-field-init : goal.loop-field-init
loop-field-init c = start _ _ _ _ _ _ (search rules) (search rules) (search rules) (search rules)

pub returns-then-not-all_zero : goal.returns-then-not-all_zero
returns-then-not-all_zero c =
    no_line _ ((ends c.loop-field.invariant (rw (← c.layout_of-field-items.ensures) c.loop-field-test.false)).0 ∙ sym c.all_zero.ensures ∙ c.if-not-all_zero.true)

pub returns : goal.returns
returns c =
    let d = ends c.loop-field.invariant (rw (← c.layout_of-field-items.ensures) c.loop-field-test.false) in
    whole_line _ _ (d.0 ∙ sym c.all_zero.ensures ∙ c.if-not-all_zero.false) d.1

pub bounds-r-n : goal.bounds-r-n
bounds-r-n c = omega (arith, room c.loop-field.invariant _ (stands_in _ _ _ c.layout_of-field-items.ensures c.loop-field-test.true c.in-Number.is))

pub returns-in_err-write_number-in-Number : goal.returns-in_err-write_number-in-Number
returns-in_err-write_number-in-Number c =
    let p = err_from_is_err_and c.from_residual.result c.from_residual.ensures.1 in
    rw (p.1, p.2)
    (no_line _ (number_unfit c.loop-field.invariant _ _ (stands_in _ _ _ c.layout_of-field-items.ensures c.loop-field-test.true c.in-Number.is)
    (to_z-of_z {w = w32} {z = get_or c.args.r.numbers c.loop-field.n (pos 0)} (search rules)) c.write_number.ensures c.in_err-write_number-in-Number.was))

pub overflow_add-m : goal.overflow_add-m
overflow_add-m c = omega (arith, room c.loop-field.invariant _ (stands_in _ _ _ c.layout_of-field-items.ensures c.loop-field-test.true c.in-Name.is))

pub slice_bounds-write_name-end-in-Name : goal.slice_bounds-write_name-end-in-Name
slice_bounds-write_name-end-in-Name c = omega (arith, room c.loop-field.invariant _ (stands_in _ _ _ c.layout_of-field-items.ensures c.loop-field-test.true c.in-Name.is), c.loop-field.invariant.wide)

pub returns-in_err-write_name-in-Name : goal.returns-in_err-write_name-in-Name
returns-in_err-write_name-in-Name c =
    let p = err_from_is_err_and c.from_residual-in_err-write_name-in-Name.result c.from_residual-in_err-write_name-in-Name.ensures.1 in
    rw (p.1, p.2)
    (no_line _ (name_unfit c.loop-field.invariant _ _ (stands_in _ _ _ c.layout_of-field-items.ensures c.loop-field-test.true c.in-Name.is) c.write_name.ensures c.in_err-write_name-in-Name.was))

pub returns-in_err-write_blank-in-Blank : goal.returns-in_err-write_blank-in-Blank
returns-in_err-write_blank-in-Blank c =
    absurd (blank_fits c.loop-field.invariant _ _ (stands_in _ _ _ c.layout_of-field-items.ensures c.loop-field-test.true c.in-Blank.is) c.write_blank.ensures c.in_err-write_blank-in-Blank.was)

pub bounds-r-q : goal.bounds-r-q
bounds-r-q c = omega (arith, room c.loop-field.invariant _ (stands_in _ _ _ c.layout_of-field-items.ensures c.loop-field-test.true c.in-Code.is))

pub returns-then-not-may_mark : goal.returns-then-not-may_mark
returns-then-not-may_mark c =
    let f = rw (c.is.ensures, to_z-of_z {w = w32} {z = get_or c.args.r.numbers 0 (pos 0)} (search rules)) at c.may_mark.ensures in
    no_line _ (mark_unfit c.loop-field.invariant _ _ (stands_in _ _ _ c.layout_of-field-items.ensures c.loop-field-test.true c.in-Code.is) refl f c.if-not-may_mark.true)

pub bounds-r-n-in-Code : goal.bounds-r-n-in-Code
bounds-r-n-in-Code c = omega (arith, room c.loop-field.invariant _ (stands_in _ _ _ c.layout_of-field-items.ensures c.loop-field-test.true c.in-Code.is))

pub returns-in_err-write_code-in-Code : goal.returns-in_err-write_code-in-Code
returns-in_err-write_code-in-Code c =
    let f = rw (c.is.ensures, to_z-of_z {w = w32} {z = get_or c.args.r.numbers 0 (pos 0)} (search rules)) at c.may_mark.ensures in
    let p = err_from_is_err_and c.from_residual-in_err-write_code-in-Code.result c.from_residual-in_err-write_code-in-Code.ensures.1 in
    rw (p.1, p.2)
    (no_line _ (code_unfit c.loop-field.invariant _ _ (stands_in _ _ _ c.layout_of-field-items.ensures c.loop-field-test.true c.in-Code.is) refl f c.if-not-may_mark.false
    (to_z-of_z {w = w32} {z = get_or c.args.r.numbers c.loop-field.n (pos 0)} (search rules)) c.write_code.ensures c.in_err-write_code-in-Code.was))

pub loop-field-preserved : goal.loop-field-preserved
loop-field-preserved c =
    let g = c.loop-field.invariant in
    elim c.match-field.branch [
      | in-Letters w ↦
          rw (w.line-is, w.n-is, w.m-is, w.q-is) (letters_next g _ _ _ (stands_in _ _ _ c.layout_of-field-items.ensures c.loop-field-test.true w.in-Letters.is) w.second_letter.ensures)
      | in-Number+in_ok-write_number-in-Number w ↦
          rw (w.line-is, w.n-is, w.m-is, w.q-is)
          (number_next g _ _ (stands_in _ _ _ c.layout_of-field-items.ensures c.loop-field-test.true w.in-Number.is)
          (to_z-of_z {w = w32} {z = get_or c.args.r.numbers c.loop-field.n (pos 0)} (search rules)) w.write_number.ensures w.in_ok-write_number-in-Number.was)
      | in-Name+in_ok-write_name-in-Name w ↦
          rw (w.line-is, w.n-is, w.m-is, w.q-is)
          (name_next g _ _ (stands_in _ _ _ c.layout_of-field-items.ensures c.loop-field-test.true w.in-Name.is) w.write_name.ensures w.in_ok-write_name-in-Name.was)
      | in-Blank+in_ok-write_blank-in-Blank w ↦
          rw (w.line-is, w.n-is, w.m-is, w.q-is) (blank_next g _ _ (stands_in _ _ _ c.layout_of-field-items.ensures c.loop-field-test.true w.in-Blank.is) w.write_blank.ensures)
      | in-Code+else-not-may_mark+in_ok-write_code-in-Code w ↦
          let f = rw (w.is.ensures, to_z-of_z {w = w32} {z = get_or c.args.r.numbers 0 (pos 0)} (search rules)) at w.may_mark.ensures in
          rw (w.line-is, w.n-is, w.m-is, w.q-is)
          (code_next g _ _ (stands_in _ _ _ c.layout_of-field-items.ensures c.loop-field-test.true w.in-Code.is) refl f w.if-not-may_mark.false
          (to_z-of_z {w = w32} {z = get_or c.args.r.numbers c.loop-field.n (pos 0)} (search rules)) w.write_code.ensures w.in_ok-write_code-in-Code.was)
    ]
