-- Sums to which the code can add. It serves the code and is no part of a promise. Assumes nothing.
use Rattle.std.specs.Prelude.{ℕ, ◌*◌, ◌≤◌}
use Rattle.totals.specs.declared.Sums.{Sums}

-- sums of k records: each adds at most a number of six digits
pub record Addable (k : ℕ) (s : Sums) : Type 0 where
  pub records : s.records ≤ 999999 * k
  pub nodes : s.nodes ≤ 999999 * k
  pub lines : s.lines ≤ 999999 * k
  pub areas : s.areas ≤ 999999 * k
  pub entries : s.entries ≤ 999999 * k
