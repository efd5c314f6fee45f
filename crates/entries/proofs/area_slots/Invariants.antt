-- `entries::area_slots` meets its contract: the loop adds up the records of one loop after another, each at most 834. Assumes nothing.
use mathlib.Core.Path.{◌≡◌}
use Prim.Native.Nat.{◌*◌, ◌≤◌}
use Rattle.entries.specs.Entries.{records_to}
use Rattle.entries.proofs.area_slots.Given as goal

abbrev pub invariant-loop : goal.invariant-loop
invariant-loop l = (l.records ≡ records_to l.file l.a l.counter) × (l.records ≤ 834 * l.counter)
