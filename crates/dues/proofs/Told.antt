-- What is told of a record, by its number: nothing of record 0 and past the first one behind the last; of record k + 1 the kind that is due behind
-- k records. Assumes nothing.
use mathlib.Core.List.{List}
use mathlib.Core.Path.{◌≡◌, refl, ◌∙◌, ap}
use Prim.Native.Nat.{ℕ, zero, suc, ◌+◌, ◌≤◌, ◌<◌}
use native.Mathlib.Numerals.{add-one}
use native.Mathlib.Omega.{arith}
use borrow.Author.Tests.{le-leb, lt-leb}
use Rattle.records.specs.declared.Kind.{Kind}
use Rattle.rules.specs.declared.Due.{Due}
use Rattle.rules.specs.Checks.{kind_of}
use Rattle.walk.specs.declared.State.{State}
use Rattle.walk.specs.States.{due_of, state_at}
use Rattle.walk.specs.Stages.{records_of}
use Rattle.std.specs.Prelude.{Some, None}
use Rattle.dues.specs.Dues.{due_at}

module _ (file : List ℕ) where
  pub told : (k : ℕ) → k ≤ records_of file → due_at file (k + 1) ≡ Some (kind_of (due_of (state_at file k)))
  unfolding due_at
  told k l = rw (add-one k, le-leb k (records_of file) l)

  -- as code has it: the state s behind k records, which are all of n
  pub all_behind : (n : ℕ) {k : ℕ} {s : State} → s ≡ state_at file k → k ≤ n → n ≤ k → s ≡ state_at file n
  all_behind n {k} e l g = let z : k ≡ n = omega arith in e ∙ ap (state_at file) z

  -- of record 0 nothing
  pub told_first : (r : ℕ) → r ≡ 0 → None ≡ due_at file r
  unfolding due_at
  told_first r e = rw e

  -- n records are looked at, and r is none of them nor the next
  pub told_past : (r : ℕ) {n : ℕ} → n ≡ records_of file → n + 1 < r → None ≡ due_at file r
  unfolding due_at
  told_past zero m l = absurd (omega arith)
  told_past (suc k) m l = rw (lt-leb k (records_of file) (omega arith))

  -- r is one of them, or the next; d is due behind the records before it, and j is its kind
  pub told_kind : (r k : ℕ) {n : ℕ} {s : State} {d : Due} {j : Kind} → r ≡ k + 1 → n ≡ records_of file → k ≤ n
      → s ≡ state_at file k → d ≡ due_of s → j ≡ kind_of d → Some j ≡ due_at file r
  told_kind r k x m l p q e = rw (x, told k (omega arith), e, q, p)
