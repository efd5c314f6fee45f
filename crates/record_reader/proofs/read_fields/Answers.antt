-- `record_reader::read_fields` meets its contract: each arm reads the next field of the layout, and a refused one is the first. Assumes nothing.
use mathlib.Core.Path.{refl, sym, ◌∙◌}
use native.Mathlib.Omega.{arith}
use mir.Facts.{to_z-of_z}
use mir.Syntax.{w32}
use borrow.Author.Rules.{rules}
use Rattle.records.proofs.Layouts.{stands_in}
use Rattle.record_reader.proofs.Along.{start, room, accept, letters_refused, letters_next, number_refused, number_next}
use Rattle.record_reader.proofs.Along.{name_refused, name_bounds, name_next, blank_refused, blank_next, code_refused, code_next}
use Rattle.record_reader.proofs.read_fields.Goals as goal
use Rattle.record_reader.proofs.read_fields.Goals.{in-Letters+else-not-letters_right, in-Number+in-Some, in-Name+else-not-read_name}
use Rattle.record_reader.proofs.read_fields.Goals.{in-Blank+else-not-read_blank, in-Code+in-Some-read_code}

pub loop-field-init : goal.loop-field-init
loop-field-init c = start _ _

pub returns : goal.returns
returns c =
    let l = c.loop-field-test.false in
    accept _ c.loop-field.invariant (rw (← c.layout_of-field-items.ensures) l) c.letters_in.ensures

pub returns-then-not-letters_right : goal.returns-then-not-letters_right
returns-then-not-letters_right c =
    c.refused.ensures
    ∙ letters_refused _ c.loop-field.invariant _ _ _ (stands_in _ _ _ c.layout_of-field-items.ensures c.loop-field-test.true c.in-Letters.is) c.letters_right.ensures c.if-not-letters_right.true

pub returns-in_default : goal.returns-in_default
returns-in_default c =
    c.refused-in_default.ensures
    ∙ number_refused _ c.loop-field.invariant _ _ (stands_in _ _ _ c.layout_of-field-items.ensures c.loop-field-test.true c.in-Number.is) c.read_number.ensures c.in_default.is

pub bounds-numbers-n : goal.bounds-numbers-n
bounds-numbers-n c = omega (arith, room c.loop-field.invariant _ (stands_in _ _ _ c.layout_of-field-items.ensures c.loop-field-test.true c.in-Number.is))

pub returns-then-not-read_name : goal.returns-then-not-read_name
returns-then-not-read_name c =
    c.refused-then-not-read_name.ensures
    ∙ name_refused _ c.loop-field.invariant _ _ (stands_in _ _ _ c.layout_of-field-items.ensures c.loop-field-test.true c.in-Name.is) c.read_name.ensures c.if-not-read_name.true

pub overflow_sub-at : goal.overflow_sub-at
overflow_sub-at c =
    let b =
    name_bounds _ c.loop-field.invariant _ _ (stands_in _ _ _ c.layout_of-field-items.ensures c.loop-field-test.true c.in-Name.is) c.read_name.ensures c.if-not-read_name.false in
    omega arith

pub overflow_add-m : goal.overflow_add-m
overflow_add-m c = omega (arith, room c.loop-field.invariant _ (stands_in _ _ _ c.layout_of-field-items.ensures c.loop-field-test.true c.in-Name.is))

pub slice_bounds-name-end : goal.slice_bounds-name-end
slice_bounds-name-end c = let r = room c.loop-field.invariant _ (stands_in _ _ _ c.layout_of-field-items.ensures c.loop-field-test.true c.in-Name.is) in omega arith

pub overflow_add-at : goal.overflow_add-at
overflow_add-at c =
    let b =
    name_bounds _ c.loop-field.invariant _ _ (stands_in _ _ _ c.layout_of-field-items.ensures c.loop-field-test.true c.in-Name.is) c.read_name.ensures c.if-not-read_name.false in
    omega (arith, c.requires)

pub slice_bounds-copy_from_slice-end : goal.slice_bounds-copy_from_slice-end
slice_bounds-copy_from_slice-end c =
    let b =
    name_bounds _ c.loop-field.invariant _ _ (stands_in _ _ _ c.layout_of-field-items.ensures c.loop-field-test.true c.in-Name.is) c.read_name.ensures c.if-not-read_name.false in
    omega arith

pub returns-then-not-read_blank : goal.returns-then-not-read_blank
returns-then-not-read_blank c =
    c.refused-then-not-read_blank.ensures
    ∙ blank_refused _ c.loop-field.invariant _ _ (stands_in _ _ _ c.layout_of-field-items.ensures c.loop-field-test.true c.in-Blank.is) c.read_blank.ensures c.if-not-read_blank.true

pub returns-in_default-read_code : goal.returns-in_default-read_code
returns-in_default-read_code c =
    c.refused-in_default-read_code.ensures
    ∙ code_refused _ c.loop-field.invariant _ _ (stands_in _ _ _ c.layout_of-field-items.ensures c.loop-field-test.true c.in-Code.is) c.read_code.ensures c.in_default-read_code.is

pub bounds-numbers-n-in-Code : goal.bounds-numbers-n-in-Code
bounds-numbers-n-in-Code c = omega (arith, room c.loop-field.invariant _ (stands_in _ _ _ c.layout_of-field-items.ensures c.loop-field-test.true c.in-Code.is))

pub bounds-marks-q : goal.bounds-marks-q
bounds-marks-q c = omega (arith, room c.loop-field.invariant _ (stands_in _ _ _ c.layout_of-field-items.ensures c.loop-field-test.true c.in-Code.is))

pub loop-field-preserved : goal.loop-field-preserved
loop-field-preserved c =
    let g = c.loop-field.invariant in
    elim c.match-field.branch [
      | in-Letters+else-not-letters_right w ↦
          rw (w.numbers-is, w.name-is, w.marks-is, w.n-is, w.m-is, w.q-is)
          (letters_next _ g _ _ _ (stands_in _ _ _ c.layout_of-field-items.ensures c.loop-field-test.true w.in-Letters.is) w.letters_right.ensures w.if-not-letters_right.false)
      | in-Number+in-Some w ↦
          rw (w.numbers-is, w.name-is, w.marks-is, w.n-is, w.m-is, w.q-is, to_z-of_z {w = w32} {z = w.in-Some.v} (search rules))
          (number_next _ g _ _ (stands_in _ _ _ c.layout_of-field-items.ensures c.loop-field-test.true w.in-Number.is) w.read_number.ensures _ w.in-Some.is)
      | in-Name+else-not-read_name w ↦
          rw (w.numbers-is, w.name-is, w.marks-is, w.n-is, w.m-is, w.q-is, w.copy_from_slice.ensures.after)
          (name_next _ g _ _ (stands_in _ _ _ c.layout_of-field-items.ensures c.loop-field-test.true w.in-Name.is) w.read_name.ensures w.if-not-read_name.false w.if-not-read_name.array_long)
      | in-Blank+else-not-read_blank w ↦
          rw (w.numbers-is, w.name-is, w.marks-is, w.n-is, w.m-is, w.q-is)
          (blank_next _ g _ _ (stands_in _ _ _ c.layout_of-field-items.ensures c.loop-field-test.true w.in-Blank.is) w.read_blank.ensures w.if-not-read_blank.false)
      | in-Code+in-Some-read_code w ↦
          rw (w.numbers-is, w.name-is, w.marks-is, w.n-is, w.m-is, w.q-is, to_z-of_z {w = w32} {z = w.in-Some-read_code.code.value} (search rules))
          (code_next _ g _ _ (stands_in _ _ _ c.layout_of-field-items.ensures c.loop-field-test.true w.in-Code.is) w.read_code.ensures _ w.in-Some-read_code.is)
    ]
