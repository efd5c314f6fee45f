-- `report::put_areas` meets its contract: the loop carries the state, the areas and the text behind the records so far. Assumes nothing.
use mathlib.Core.Path.{◌≡◌}
use Prim.Native.Nat.{◌*◌, ◌≤◌}
use lib.ListN.{length}
use Rattle.walk.specs.States.{state_at, counts_at}
use Rattle.report.specs.Texts.{areas_text}
use Rattle.report.proofs.put_areas.Given as goal

abbrev pub invariant-loop-k : goal.invariant-loop-k
invariant-loop-k l =
    record {
      state : l.s ≡ state_at l.file l.k;
      areas : l.a ≡ (counts_at l.file l.k).areas;
      text : l.page ≡ areas_text l.file l.measures l.k;
      room : length l.page ≤ 135 * l.a;
    }
