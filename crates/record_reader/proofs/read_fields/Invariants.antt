-- `record_reader::read_fields` meets its contract. The loop's invariant, `Going`: the fields that are left give the answer of the whole.
-- Assumes nothing.
use Rattle.records.specs.Layout.{layout_of}
use Rattle.record_reader.proofs.Along.{Going}
use Rattle.record_reader.proofs.read_fields.Given as goal

abbrev pub invariant-loop-field : goal.invariant-loop-field
invariant-loop-field l = Going (layout_of l.kind) l.s l.numbers l.name l.marks l.n l.m l.q l.field-index
