-- From record to record: how many layers came, and the layer of the next record. Only an H begins another one, so quiet records leave both as
-- they are. Assumes nothing.
use mathlib.Core.Bool.{Bool, true, false, cond}
use mathlib.Core.List.{List}
use mathlib.Core.Path.{◌≡◌, refl, ap}
use Prim.Native.Nat.{ℕ, suc, ◌+◌, ◌-◌}
use native.Mathlib.Numerals.{add-one}
use native.Mathlib.Omega.{arith}
use Rattle.records.specs.View.{record_of}
use Rattle.rules.specs.declared.Due.{Due}
use Rattle.rules.specs.declared.Due.TheVariants as due
use Rattle.walk.specs.declared.State.{State}
use Rattle.walk.specs.declared.Counts.{Counts}
use Rattle.walk.specs.States.{due_of, state_at, counted_for, counts_at}
use Rattle.walk.specs.Quiet.{Quiet}
use Rattle.walk.proofs.Passing.{passed_counts}
use Rattle.layers.specs.declared.Bases.{Bases}
use Rattle.layers.specs.Naming.{layer_in}
use Rattle.layers.specs.Passing.{is_layer, layer_at}

counted_layers : (d : Due) (c : Counts) (t : List ℕ) → (counted_for d c t).layers ≡ c.layers + cond (is_layer d) 1 0
counted_layers (due.Mesh last) c t = omega arith
counted_layers (due.Layer last) c t = omega arith
counted_layers (due.Node layer last) c t = omega arith
counted_layers (due.Line layer last letters) c t = omega arith
counted_layers (due.Coordinates left) c t = omega arith
counted_layers (due.Area layer last) c t = omega arith
counted_layers (due.Loop last count left) c t = omega arith

-- ---- behind the record that comes behind the first k

pub counts_step : (file : List ℕ) (k : ℕ) → (counts_at file (k + 1)).layers ≡ (counts_at file k).layers + cond (is_layer (due_of (state_at file k))) 1 0
unfolding counts_at
counts_step file k = rw add-one (counted_layers (due_of (state_at file k)) (counts_at file k) (record_of file (suc k)))

-- n layers came before it, and m with it
step_by : (t : List ℕ) (b : Bases) (y : Bool) (n m : ℕ) → m ≡ n + cond y 1 0 → layer_in t b (m - 1) ≡ cond y (layer_in t b n) (layer_in t b (n - 1))
step_by t b true n m e =
    let z : m - 1 ≡ n = omega arith in
    rw z
step_by t b false n m e =
    let z : m ≡ n = omega arith in
    rw z

pub layer_step : (file t : List ℕ) (b : Bases) (k : ℕ)
    → layer_at file t b (k + 1) ≡ cond (is_layer (due_of (state_at file k))) (layer_in t b (counts_at file k).layers) (layer_at file t b k)
unfolding layer_at
layer_step file t b k = step_by t b (is_layer (due_of (state_at file k))) (counts_at file k).layers (counts_at file (k + 1)).layers (counts_step file k)

-- ---- behind h quiet records more

module _ (file : List ℕ) (k : ℕ) {h : ℕ} {s : State} (e : s ≡ state_at file k) (q : Quiet s h) where
  pub counts_past : (counts_at file k).layers ≡ (counts_at file (k + h)).layers
  counts_past = ap (λ (c : Counts). c.layers) (passed_counts file k e q h (omega arith) refl)

  pub layer_past : (t : List ℕ) (b : Bases) → layer_at file t b k ≡ layer_at file t b (k + h)
  unfolding layer_at
  layer_past t b = rw counts_past
