-- `records::record_view` meets its contract: the two tests are the definition's, and the part is 74 bytes. Assumes nothing.
use mathlib.Core.Path.{sym}
use native.Mathlib.Omega.{arith}
use Rattle.records.proofs.Numbers.{record_none, record_past, record_there}
use Rattle.records.proofs.record_view.Goals.{then-k-eq0-via-then-k-eq0, then-k-eq0-via-else-k-eq0+then-file-k}
use Rattle.records.proofs.record_view.Goals as goal

pub returns-then-k-eq0 : goal.returns-then-k-eq0
returns-then-k-eq0 c =
    elim c.then-k-eq0.branch [
      | then-k-eq0-via-then-k-eq0 w ↦ sym (record_none _ _ w.if-k-eq0.true)
      | then-k-eq0-via-else-k-eq0+then-file-k w ↦ sym (record_past _ _ w.if-file-k.true)
    ]

pub returns : goal.returns
returns c = sym (record_there _ _ (omega arith) c.if-file-k.false)
