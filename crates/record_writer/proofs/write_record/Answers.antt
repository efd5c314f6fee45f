-- `record_writer::write_record` meets its contract: the letters are looked at, and the line is spelled, before the buffer is touched. Assumes nothing.
use mathlib.Core.Path.{◌≡◌, sym, ◌∙◌}
use lib.ListN.{length}
use lib.Seq.{length-take-le}
use borrow.Author.Rules.{rules}
use Rattle.std.proofs.lemmas.Result.{err_from_is_err_and}
use Rattle.record_writer.proofs.Lines.{letters_unfit, written_unfit, written_all}
use Rattle.record_writer.proofs.write_record.Goals as goal

pub returns-then-not-may_letter : goal.returns-then-not-may_letter
returns-then-not-may_letter c = letters_unfit _ _ c.if-buf-lt74.false c.may_letter.ensures c.if-not-may_letter.true

pub returns-in_err-line : goal.returns-in_err-line
returns-in_err-line c =
    let p = err_from_is_err_and c.from_residual.result c.from_residual.ensures.1 in
    rw (p.1, p.2) (written_unfit _ _ c.if-buf-lt74.false c.may_letter.ensures c.if-not-may_letter.false (sym c.in_err-line.ensures))

pub copy_from_slice-requires : goal.copy_from_slice-requires
copy_from_slice-requires c =
    let l : length c.in_ok-line.line ≡ 74 = search rules in
    length-take-le 74 c.args.buf.now c.if-buf-lt74.false ∙ sym l

pub returns : goal.returns
returns c =
    rw c.copy_from_slice.ensures.after (written_all _ _ c.if-buf-lt74.false c.may_letter.ensures c.if-not-may_letter.false (sym c.in_ok-line.ensures))
