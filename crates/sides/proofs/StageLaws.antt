-- That a line's number can be counted, and that a quiet record is no line. Assumes nothing.
use mathlib.Core.Bool.{true}
use mathlib.Core.List.{List, []}
use mathlib.Core.Path.{◌≡◌, refl}
use Prim.Native.Nat.{ℕ, zero, suc, ◌+◌, ◌≤◌}
use native.Mathlib.Omega.{arith}
use lib.Dec.{lit≤}
use Rattle.records.specs.View.{record_of}
use Rattle.rules.specs.declared.Due.{Due}
use Rattle.rules.specs.declared.Due.TheVariants as due
use Rattle.walk.specs.declared.State.{State}
use Rattle.walk.specs.States.{due_of, next_for, next_of, state_at}
use Rattle.walk.specs.Quiet.{is_quiet}
use Rattle.walk.proofs.Dues.{by_due}
use Rattle.walk.proofs.Walking.{size_small}
use Rattle.walk.proofs.Passing.{by_quiet}
use Rattle.layers.specs.declared.Standing.{Standing}
use Rattle.sides.specs.Sides.{line_list_checks, sides_at}
use Rattle.sides.specs.Marking.{LineCountable}

-- ---- a line can be counted, since an H's number of lines has at most 6 digits

lines_next : (d : Due) (s : State) (t : List ℕ) → s.layer.lines ≤ 999999 → (next_for d s t).layer.lines ≤ 999999
lines_next (due.Mesh last) s t h = lit≤ tt
lines_next (due.Layer last) s t h = size_small t 10 5
lines_next (due.Node layer last) s t h = h
lines_next (due.Line layer last letters) s t h = h
lines_next (due.Coordinates left) s t h = h
lines_next (due.Area layer last) s t h = h
lines_next (due.Loop last count zero) s t h = h
lines_next (due.Loop last count (suc left)) s t h = h

lines_small : (file : List ℕ) (k : ℕ) → (state_at file k).layer.lines ≤ 999999
unfolding state_at next_of
lines_small _ zero = lit≤ tt
lines_small file (suc k) = lines_next (due_of (state_at file k)) (state_at file k) (record_of file (suc k)) (lines_small file k)

state_countable : (s : State) → s.layer.lines ≤ 999999 → LineCountable (due_of s)
state_countable s h = by_due LineCountable s (λ _. tt) (λ _. tt) (λ _. tt) (λ _. tt) (λ l. omega arith) (λ _ _. tt) (λ _. tt) (λ _. tt)

pub due_countable : (file : List ℕ) (k : ℕ) {s : State} {d : Due} → s ≡ state_at file k → d ≡ due_of s → LineCountable d
due_countable file k e f = rw (f, e) (state_countable (state_at file k) (lines_small file k))

-- ---- a quiet record is no line

pub quiet_none : (file t : List ℕ) (x : Standing) → is_quiet (due_of x.state) ≡ true → sides_at file t x ≡ []
quiet_none file t x = by_quiet (λ d. line_list_checks d file t x.layer (x.records + 1) ≡ []) (λ layer last. refl) (λ left. refl) (due_of x.state)
