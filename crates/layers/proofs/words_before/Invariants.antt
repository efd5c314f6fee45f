-- `layers::words_before` meets its contract: the loop adds the rows up one by one, and a word is below 2^32. Assumes nothing.
use mathlib.Core.Path.{◌≡◌}
use Prim.Native.Nat.{◌*◌, ◌≤◌}
use Rattle.layers.specs.Naming.{words_before}
use Rattle.layers.proofs.words_before.Given as goal

abbrev pub invariant-loop-k : goal.invariant-loop-k
invariant-loop-k l = (l.sum ≡ words_before l.table l.j l.k) × (l.sum ≤ 4294967296 * l.k)
