-- `judge::area_measure` meets its contract: the loop adds up the loops' measures one by one, and every partial sum fits. Assumes nothing.
use mathlib.Core.Path.{◌≡◌}
use Prim.Native.Nat.{◌+◌, ◌*◌, ◌≤◌}
use Rattle.measures.specs.Measures.{area_measure}
use Rattle.entries.specs.Entries.{loops_to, records_to}
use Rattle.entries.specs.Keeping.{kept_measure}
use Rattle.judge.proofs.area_measure.Given as goal

abbrev pub invariant-loop : goal.invariant-loop
invariant-loop l =
    (l.f ≡ l.a + 1 + records_to l.file l.a l.counter)
    × (records_to l.file l.a l.counter ≤ 834 * l.counter)
    × (l.sum ≡ area_measure (kept_measure l.l l.kept) (loops_to l.file l.a l.counter))
