-- `records::slot_column` meets its contract: past the count there is no slot; within it the column is a small number, since the row's
-- start, step and count are bytes. Assumes nothing.
use mathlib.Core.Path.{sym}
use native.Mathlib.Omega.{arith}
use Rattle.records.proofs.Named.{start_past, start_there, small_product}
use Rattle.records.proofs.slot_column.Goals as goal

pub returns-then-from-i : goal.returns-then-from-i
returns-then-from-i c = (sym (start_past _ _ _ _ (omega arith)), omega arith)

pub overflow_mul-result : goal.overflow_mul-result
overflow_mul-result c =
    let a = c.args in
    record { fits = omega (arith, small_product {a = c.from-3.result} {b = a.i} (omega arith) (omega arith)) }

pub overflow_add-result : goal.overflow_add-result
overflow_add-result c =
    let a = c.args in
    record { fits = omega (arith, small_product {a = c.from-3.result} {b = a.i} (omega arith) (omega arith)) }

pub returns : goal.returns
returns c =
    let a = c.args in (
      rw (c.from-2.ensures, c.from-3.ensures) (sym (start_there _ _ _ _ (omega arith))),
      omega (arith, small_product {a = c.from-3.result} {b = a.i} (omega arith) (omega arith)),
    )
