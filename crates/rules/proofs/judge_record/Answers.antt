use mathlib.Core.Path.{◌≡◌, sym, ap, ◌∙◌}
use native.Mathlib.Omega.{arith}
use lib.ListN.{set}
use mir.Syntax.{w32}
use mir.Val.{to_z, of_z}
use borrow.Author.Rules.{rules}
use Rattle.records.specs.Reading.{letters_in}
use Rattle.asks.specs.Asks.{first_asked}
use Rattle.rules.specs.Checks.{asked_of}
use Rattle.rules.proofs.Going.{asked_by, start, ends, stood, room_for, letters_broken, letters_next, number_ill}
use Rattle.rules.proofs.Going.{number_broken, number_next, name_ill, name_next, blank_ill, blank_next, code_ill, code_broken, code_next}
use Rattle.rules.proofs.judge_record.Goals as goal
use Rattle.rules.proofs.judge_record.Goals.{in-Letters+else-not-letters_right, in-Number+in-Some+in_default-judge_value, in-Name+else-not-read_name, in-Blank+else-not-read_blank, in-Code+in-Some-read_code+in_default-judge_value-2}

pub loop-field-init : goal.loop-field-init
loop-field-init c = start _ _ _

pub returns-then-not-letters_right : goal.returns-then-not-letters_right
returns-then-not-letters_right c =
    c.refusal.ensures
    ∙ letters_broken c.loop-field.invariant _ _ _ (stood _ _ _ _ c.kind_of-kind.ensures c.layout_of-field-items.ensures c.loop-field-test.true c.in-Letters.is)
    (rw (c.byte_at.ensures, c.byte_at-in-Letters.ensures) at c.letters_right.ensures) c.if-not-letters_right.true

pub refusal-requires-in_default : goal.refusal-requires-in_default
refusal-requires-in_default c = omega (arith, (room_for c.loop-field.invariant _ (stood _ _ _ _ c.kind_of-kind.ensures c.layout_of-field-items.ensures c.loop-field-test.true c.in-Number.is)).column)

pub returns-in_default : goal.returns-in_default
returns-in_default c = c.refusal-in_default.ensures ∙ number_ill c.loop-field.invariant _ _ (stood _ _ _ _ c.kind_of-kind.ensures c.layout_of-field-items.ensures c.loop-field-test.true c.in-Number.is) c.read_number.ensures c.in_default.is

pub bounds-numbers-n : goal.bounds-numbers-n
bounds-numbers-n c = omega (arith, room_for c.loop-field.invariant _ (stood _ _ _ _ c.kind_of-kind.ensures c.layout_of-field-items.ensures c.loop-field-test.true c.in-Number.is))

pub refusal-requires-in-Err : goal.refusal-requires-in-Err
refusal-requires-in-Err c = omega (arith, (room_for c.loop-field.invariant _ (stood _ _ _ _ c.kind_of-kind.ensures c.layout_of-field-items.ensures c.loop-field-test.true c.in-Number.is)).column)

pub returns-in-Err : goal.returns-in-Err
returns-in-Err c =
    let z : to_z w32 (of_z w32 c.in-Some.v) ≡ c.in-Some.v = search rules in
    c.refusal-in-Err.ensures
    ∙ rw c.number.ensures (number_broken c.loop-field.invariant _ _ (stood _ _ _ _ c.kind_of-kind.ensures c.layout_of-field-items.ensures c.loop-field-test.true c.in-Number.is) c.read_number.ensures _ c.in-Some.is
    (sym c.in-Err.is ∙ (rw z at c.judge_value.ensures) ∙ ap first_asked (asked_by _ _ (c.letters_in-letters.ensures ∙ ap (λ k. letters_in k c.args.s.now) c.kind_of-kind.ensures) _ _)))

pub refusal-requires-then-not-read_name : goal.refusal-requires-then-not-read_name
refusal-requires-then-not-read_name c = omega (arith, (room_for c.loop-field.invariant _ (stood _ _ _ _ c.kind_of-kind.ensures c.layout_of-field-items.ensures c.loop-field-test.true c.in-Name.is)).column)

pub returns-then-not-read_name : goal.returns-then-not-read_name
returns-then-not-read_name c =
    c.refusal-then-not-read_name.ensures ∙ name_ill c.loop-field.invariant _ _ (stood _ _ _ _ c.kind_of-kind.ensures c.layout_of-field-items.ensures c.loop-field-test.true c.in-Name.is) c.read_name.ensures c.if-not-read_name.true

pub refusal-requires-then-not-read_blank : goal.refusal-requires-then-not-read_blank
refusal-requires-then-not-read_blank c = omega (arith, (room_for c.loop-field.invariant _ (stood _ _ _ _ c.kind_of-kind.ensures c.layout_of-field-items.ensures c.loop-field-test.true c.in-Blank.is)).column)

pub returns-then-not-read_blank : goal.returns-then-not-read_blank
returns-then-not-read_blank c =
    c.refusal-then-not-read_blank.ensures ∙ blank_ill c.loop-field.invariant _ _ (stood _ _ _ _ c.kind_of-kind.ensures c.layout_of-field-items.ensures c.loop-field-test.true c.in-Blank.is) c.read_blank.ensures c.if-not-read_blank.true

pub refusal-requires-in_default-read_code : goal.refusal-requires-in_default-read_code
refusal-requires-in_default-read_code c = omega (arith, (room_for c.loop-field.invariant _ (stood _ _ _ _ c.kind_of-kind.ensures c.layout_of-field-items.ensures c.loop-field-test.true c.in-Code.is)).column)

pub returns-in_default-read_code : goal.returns-in_default-read_code
returns-in_default-read_code c =
    c.refusal-in_default-read_code.ensures ∙ code_ill c.loop-field.invariant _ _ (stood _ _ _ _ c.kind_of-kind.ensures c.layout_of-field-items.ensures c.loop-field-test.true c.in-Code.is) c.read_code.ensures c.in_default-read_code.is

pub bounds-numbers-n-in-Code : goal.bounds-numbers-n-in-Code
bounds-numbers-n-in-Code c = omega (arith, room_for c.loop-field.invariant _ (stood _ _ _ _ c.kind_of-kind.ensures c.layout_of-field-items.ensures c.loop-field-test.true c.in-Code.is))

pub refusal-requires-in-Err-judge_value : goal.refusal-requires-in-Err-judge_value
refusal-requires-in-Err-judge_value c = omega (arith, (room_for c.loop-field.invariant _ (stood _ _ _ _ c.kind_of-kind.ensures c.layout_of-field-items.ensures c.loop-field-test.true c.in-Code.is)).column)

pub returns-in-Err-judge_value : goal.returns-in-Err-judge_value
returns-in-Err-judge_value c =
    let k = c.in-Some-read_code.code in
    let z : to_z w32 (of_z w32 k.value) ≡ k.value = search rules in
    c.refusal-in-Err-judge_value.ensures
    ∙ rw c.number-in-Err-judge_value.ensures (code_broken c.loop-field.invariant _ _ (stood _ _ _ _ c.kind_of-kind.ensures c.layout_of-field-items.ensures c.loop-field-test.true c.in-Code.is) c.read_code.ensures _ c.in-Some-read_code.is
    (sym c.in-Err-judge_value.is ∙ (rw z at c.judge_value-in-Code.ensures) ∙ ap first_asked (asked_by _ _ (c.letters_in-letters.ensures ∙ ap (λ k. letters_in k c.args.s.now) c.kind_of-kind.ensures) _ _)))

pub loop-field-preserved : goal.loop-field-preserved
loop-field-preserved c =
    let p = c.letters_in-letters.ensures ∙ ap (λ k. letters_in k c.args.s.now) c.kind_of-kind.ensures in
    elim c.match-field.branch [
      | in-Letters+else-not-letters_right w ↦
          rw (w.numbers-is, w.n-is) (letters_next c.loop-field.invariant _ _ _ (stood _ _ _ _ c.kind_of-kind.ensures c.layout_of-field-items.ensures c.loop-field-test.true w.in-Letters.is)
          (rw (w.byte_at.ensures, w.byte_at-in-Letters.ensures) at w.letters_right.ensures) w.if-not-letters_right.false)
      | in-Number+in-Some+in_default-judge_value w ↦
          let z : to_z w32 (of_z w32 w.in-Some.v) ≡ w.in-Some.v = search rules in
          rw (w.numbers-is, w.n-is, z) (number_next c.loop-field.invariant _ _ (stood _ _ _ _ c.kind_of-kind.ensures c.layout_of-field-items.ensures c.loop-field-test.true w.in-Number.is) w.read_number.ensures _ w.in-Some.is
          (sym w.in_default-judge_value.is ∙ (rw z at w.judge_value.ensures) ∙ ap first_asked (asked_by _ _ p _ _)))
      | in-Name+else-not-read_name w ↦
          rw (w.numbers-is, w.n-is) (name_next c.loop-field.invariant _ _ (stood _ _ _ _ c.kind_of-kind.ensures c.layout_of-field-items.ensures c.loop-field-test.true w.in-Name.is) w.read_name.ensures w.if-not-read_name.false)
      | in-Blank+else-not-read_blank w ↦
          rw (w.numbers-is, w.n-is) (blank_next c.loop-field.invariant _ _ (stood _ _ _ _ c.kind_of-kind.ensures c.layout_of-field-items.ensures c.loop-field-test.true w.in-Blank.is) w.read_blank.ensures w.if-not-read_blank.false)
      | in-Code+in-Some-read_code+in_default-judge_value-2 w ↦
          let k = w.in-Some-read_code.code in
          let z : to_z w32 (of_z w32 k.value) ≡ k.value = search rules in
          rw (w.numbers-is, w.n-is, z) (code_next c.loop-field.invariant _ _ (stood _ _ _ _ c.kind_of-kind.ensures c.layout_of-field-items.ensures c.loop-field-test.true w.in-Code.is) w.read_code.ensures _ w.in-Some-read_code.is
          (sym w.in_default-judge_value-2.is ∙ (rw z at w.judge_value-in-Code.ensures) ∙ ap first_asked (asked_by _ _ p _ _)))
    ]

pub returns : goal.returns
returns c =
    let l = c.loop-field-test.false in
    ends c.loop-field.invariant (rw (← c.kind_of-kind.ensures, ← c.layout_of-field-items.ensures) l)
