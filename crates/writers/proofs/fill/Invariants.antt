-- `writers::fill` meets its contract. The loop's invariant: the buffer with the columns that are left is the buffer that is wanted.
-- Assumes nothing.
use mathlib.Core.List.{◌++◌}
use mathlib.Core.Path.{◌≡◌}
use Prim.Native.Nat.{◌+◌}
use lib.ListN.{take, drop}
use Rattle.fields.specs.Spelling.{columns}
use Rattle.writers.proofs.fill.Given as goal

abbrev pub invariant-loop-k : goal.invariant-loop-k
invariant-loop-k l =
    take l.at l.initial.buf ++ (columns l.width l.initial.l ++ drop (l.at + l.width) l.initial.buf) ≡ take l.at l.buf ++ (columns l.k l.l ++ drop (l.at + l.k) l.buf)
