-- `record_writer::spell_record` meets its contract. The loop's invariant, `Lines`: the columns so far are written, and what is left decides.
-- Assumes nothing.
use Rattle.records.specs.Layout.{layout_of}
use Rattle.record_writer.proofs.Lines.{Lines}
use Rattle.record_writer.proofs.spell_record.Given as goal

abbrev pub invariant-loop-field : goal.invariant-loop-field
invariant-loop-field l = Lines l.r.letters (layout_of l.r.kind) l.r.numbers l.r.name l.r.marks l.line l.n l.m l.q l.field-index
