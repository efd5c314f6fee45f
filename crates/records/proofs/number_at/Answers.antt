-- `records::number_at` meets its contract: the first test is that of the record, the other that of the columns, and past them both
-- the part of the file is the field's bytes. Assumes nothing.
use mir.Syntax.{w32}
use mathlib.Core.Path.{sym, ◌∙◌}
use native.Mathlib.Omega.{arith}
use mir.Facts.{to_z-of_z}
use Rattle.records.proofs.Numbers.{record_none, record_past, number_none, number_before, number_past, number_there}
use Rattle.records.proofs.number_at.Goals.{then-k-eq0-via-then-k-eq0, then-k-eq0-via-else-k-eq0+then-file-k}
use Rattle.records.proofs.number_at.Goals.{then-column-eq0-via-then-column-eq0, then-column-eq0-via-else-column-eq0+then-width-gt74}
use Rattle.records.proofs.number_at.Goals.{then-column-eq0-via-else-column-eq0+else-width-gt74+then-width-column}
use Rattle.records.proofs.number_at.Goals as goal

pub returns-then-k-eq0 : goal.returns-then-k-eq0
returns-then-k-eq0 c =
    elim c.then-k-eq0.branch [
      | then-k-eq0-via-then-k-eq0 w ↦ sym (number_none _ _ _ _ (record_none _ _ w.if-k-eq0.true))
      | then-k-eq0-via-else-k-eq0+then-file-k w ↦ sym (number_none _ _ _ _ (record_past _ _ w.if-file-k.true))
    ]

pub returns-then-column-eq0 : goal.returns-then-column-eq0
returns-then-column-eq0 c =
    elim c.then-column-eq0.branch [
      | then-column-eq0-via-then-column-eq0 w ↦ sym (number_before _ _ _ _ w.if-column-eq0.true)
      | then-column-eq0-via-else-column-eq0+then-width-gt74 w ↦ sym (number_past _ _ (omega arith) c.if-file-k.false _ _ (omega arith) (omega arith))
      | then-column-eq0-via-else-column-eq0+else-width-gt74+then-width-column w ↦
          sym (number_past _ _ (omega arith) c.if-file-k.false _ _ (omega arith) (omega arith))
    ]

pub returns : goal.returns
returns c =
    let i = c.if-file-k.false in
    to_z-of_z {w = w32} (record { sfits = c.value_of.type_inv }) ∙ c.value_of.ensures ∙ sym (number_there _ _ (omega arith) i _ _ (omega arith) (omega arith))
