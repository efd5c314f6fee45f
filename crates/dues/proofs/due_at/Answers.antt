-- `dues::due_at` meets its contract: the kind is that of what the walk says is due behind the records before the one asked for. Assumes nothing.
use native.Mathlib.Omega.{arith}
use Rattle.dues.proofs.Told.{told_first, told_past, told_kind}
use Rattle.dues.proofs.due_at.Goals as goal

pub returns-in_err-before : goal.returns-in_err-before
returns-in_err-before c = rw c.from_residual.ensures (told_first _ _ (omega (arith, c.in_err-before.ensures)))

pub returns-then-records_of-before : goal.returns-then-records_of-before
returns-then-records_of-before c = told_past _ _ c.records_of.ensures.0 (omega (arith, c.in_ok-before.ensures, c.if-records_of-before.true))

pub returns : goal.returns
returns c =
    told_kind _ _ c.in_ok-before.before (omega (arith, c.in_ok-before.ensures)) c.records_of.ensures.0 c.if-records_of-before.false
    c.behind-s.ensures c.due.ensures c.kind_of.ensures
