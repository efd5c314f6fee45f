-- `links::scan_slots` meets its contract: the inner loop finds no earlier slot like this one, or leaves both loops at it. Assumes nothing.
use mathlib.Core.Bool.{true, false}
use mathlib.Core.Path.{◌≡◌}
use Prim.Native.Nat.{ℕ, ◌≤◌, ◌<◌}
use lib.IntN.{ℤ}
use Rattle.links.specs.Links.{equal}
use Rattle.links.specs.Scanning.{clean}
use Rattle.links.proofs.scan_slots.Given as goal

abbrev pub invariant-scan : goal.invariant-scan
invariant-scan g l = record {
  whole : l.at ≡ l.to;
  passed : (f : ℕ → ℤ) → ((i : ℕ) (v : ℤ) → i < l.to → goal.F-post g l.slot i v → v ≡ f i) → (k : ℕ) → l.from ≤ k → k < l.e → clean f k ≡ true;
}

abbrev pub invariant-loop-j : goal.invariant-loop-j
invariant-loop-j g l = record {
  whole : l.at ≡ l.to;
  unlike : (f : ℕ → ℤ) → ((i : ℕ) (v : ℤ) → i < l.to → goal.F-post g l.slot i v → v ≡ f i) → (k : ℕ) → k < l.j → equal (f l.e) (f k) ≡ false;
}
