-- `entries::loop_measure` meets its contract: the loop adds up the slots' measures, at most 10008, so the sum fits. Assumes nothing.
use mathlib.Core.Path.{◌≡◌}
use Prim.Native.Nat.{◌*◌}
use Rattle.measures.specs.Walks.{Small}
use Rattle.measures.specs.Measures.{loop_measure}
use Rattle.entries.specs.Entries.{entries_to}
use Rattle.entries.specs.Keeping.{kept_measure}
use Rattle.entries.proofs.loop_measure.Given as goal

abbrev pub invariant-loop-e : goal.invariant-loop-e
invariant-loop-e l =
    Small (l.e * 200000000000000) l.sum × (l.sum ≡ loop_measure (kept_measure l.l l.kept) (entries_to l.file l.f l.e))
