-- Where a walk stands: behind one record more, and behind quiet records, part by part. Assumes nothing.
use mathlib.Core.Bool.{Bool, true, false, cond}
use mathlib.Core.List.{List}
use mathlib.Core.Path.{◌≡◌, refl, sym, ◌∙◌, ap, subst}
use Prim.Native.Nat.{ℕ, ◌+◌, ◌-◌, ◌≤◌, ◌<◌, min}
use native.Mathlib.Nat.{min-le_left, min-le_right}
use native.Mathlib.Numerals.{add-one}
use native.Mathlib.Omega.{arith}
use Rattle.records.specs.View.{record_of}
use Rattle.walk.specs.declared.State.{State}
use Rattle.walk.specs.States.{due_of, start, next_of, state_at, counts_at}
use Rattle.walk.specs.Stages.{records_of}
use Rattle.walk.specs.Quiet.{passed, Quiet, quiet_ahead}
use Rattle.walk.proofs.Walking.{next_state, counts_small}
use Rattle.walk.proofs.Passing.{passed_state, pass_are_quiet}
use Rattle.layers.specs.declared.Bases.{Bases}
use Rattle.layers.specs.declared.Layer.{Layer}
use Rattle.layers.specs.declared.Standing.{Standing}
use Rattle.layers.specs.Naming.{layer_in}
use Rattle.layers.specs.Passing.{is_layer, layer_at}
use Rattle.layers.specs.Standing.{standing_at, quiet_in, past_by}
use Rattle.layers.proofs.Passing.{counts_step, layer_step, counts_past, layer_past}

-- a standing by its parts
pub standing : {s u : State} {m n : ℕ} {l r : Layer} {i k : ℕ} → s ≡ u → m ≡ n → l ≡ r → i ≡ k
    → ◌≡◌ {A = Standing} (record { state = s; rows = m; layer = l; records = i }) (record { state = u; rows = n; layer = r; records = k })
standing e f g h = rw (e, f, g, h)

-- ---- the walk of a file stands at x

pub record Stands (file t : List ℕ) (b : Bases) (x : Standing) : Type 0 where
  pub here : x ≡ standing_at file t b x.records
  pub within : x.records ≤ records_of file

module _ (file t : List ℕ) (b : Bases) {x : Standing} {k : ℕ} (e : x ≡ standing_at file t b k) where
  pub records_are : x.records ≡ k
  records_are = ap (λ (y : Standing). y.records) e

  pub state_is : x.state ≡ state_at file k
  state_is = ap (λ (y : Standing). y.state) e

  pub rows_are : x.rows ≡ (counts_at file k).layers
  rows_are = ap (λ (y : Standing). y.rows) e

  pub layer_is : x.layer ≡ layer_at file t b k
  layer_is = ap (λ (y : Standing). y.layer) e

  pub stands : k ≤ records_of file → Stands file t b x
  stands l = record { here = subst (λ (i : ℕ). x ≡ standing_at file t b i) (sym records_are) e; within = omega (arith, records_are) }

-- before the first record
pub first_is : (file t : List ℕ) (b : Bases) {s : State} {l : Layer} → s ≡ start → l ≡ layer_in t b 0
    → record { state = s; rows = 0; layer = l; records = 0 } ≡ standing_at file t b 0
unfolding state_at counts_at layer_at
first_is file t b e g = standing e refl g refl

-- ---- behind one record more: h says whether it is an H

module _ (file t : List ℕ) (b : Bases) {x : Standing} (e : x ≡ standing_at file t b x.records) where
  -- fewer layers came than there are records
  pub rows_less : {n : ℕ} → n ≤ x.rows → x.records < n → ⊥
  rows_less l m = omega (arith, rows_are file t b e, (counts_small file x.records).layers)

  rows_next : (counts_at file (x.records + 1)).layers ≡ x.rows + cond (is_layer (due_of x.state)) 1 0
  rows_next = counts_step file x.records ∙ rw (← state_is file t b e, ← rows_are file t b e)

  layer_next : layer_at file t b (x.records + 1) ≡ cond (is_layer (due_of x.state)) (layer_in t b x.rows) x.layer
  layer_next = layer_step file t b x.records ∙ rw (← state_is file t b e, ← rows_are file t b e, ← layer_is file t b e)

  -- the parts of where the walk then stands
  module _ {y : Standing} (q : y ≡ standing_at file t b (x.records + 1)) where
    pub state_behind : y.state ≡ next_of x.state (record_of file (x.records + 1))
    unfolding state_at
    state_behind = state_is file t b q ∙ rw (add-one, state_is file t b e)

    pub rows_behind : y.rows ≡ x.rows + cond (is_layer (due_of x.state)) 1 0
    rows_behind = rows_are file t b q ∙ rows_next

    pub layer_behind : y.layer ≡ cond (is_layer (due_of x.state)) (layer_in t b x.rows) x.layer
    layer_behind = layer_is file t b q ∙ layer_next

  module _ {u : State} (f : u ≡ next_of x.state (record_of file (x.records + 1))) {h : Bool} (g : h ≡ is_layer (due_of x.state)) where
    pub behind_same : h ≡ false → record { state = u; rows = x.rows; layer = x.layer; records = x.records + 1 } ≡ standing_at file t b (x.records + 1)
    behind_same z =
        let i : is_layer (due_of x.state) ≡ false = sym g ∙ z in
        let r = rw i at rows_next in
        standing (next_state file x.records (state_is file t b e) f) (omega (arith, r)) (sym (rw i at layer_next)) refl

    pub behind_other : h ≡ true → {l : Layer} → l ≡ layer_in t b x.rows
        → record { state = u; rows = x.rows + 1; layer = l; records = x.records + 1 } ≡ standing_at file t b (x.records + 1)
    behind_other z o =
        let i : is_layer (due_of x.state) ≡ true = sym g ∙ z in
        standing (next_state file x.records (state_is file t b e) f) (sym (rw i at rows_next)) (o ∙ sym (rw i at layer_next)) refl

-- ---- behind quiet records

-- they are quiet, no more than `most`, and the file has them
module _ (file : List ℕ) (most : ℕ) (x : Standing) where
  -- no more than `most`, of those that are left
  abbrev left : ℕ
  left = min most (records_of file - x.records)

  pub quiet_most : quiet_in file most x ≤ most
  unfolding quiet_in
  quiet_most = omega (arith, min-le_left left (quiet_ahead x.state), min-le_left most (records_of file - x.records))

  quiet_left : quiet_in file most x ≤ records_of file - x.records
  unfolding quiet_in
  quiet_left = omega (arith, min-le_left left (quiet_ahead x.state), min-le_right most (records_of file - x.records))

  pub are_quiet : Quiet x.state (quiet_in file most x)
  unfolding quiet_in
  are_quiet = pass_are_quiet x.state left refl

-- as code has it: no more than m are passed
pub quiet_some : (file : List ℕ) (x : Standing) (most : ℕ) {m h : ℕ} {u : State} → m ≡ min most (records_of file - x.records)
    → (h ≡ min m (quiet_ahead x.state)) × (u ≡ passed x.state h)
    → record { state = u; rows = x.rows; layer = x.layer; records = x.records + h } ≡ past_by x (quiet_in file most x)
unfolding quiet_in
quiet_some file x most g h = rw (← g, ← h.0) (standing h.1 refl refl refl)

-- the walk stands behind j of them
pub past_is : (file t : List ℕ) (b : Bases) {x : Standing} → x ≡ standing_at file t b x.records → {h : ℕ} → Quiet x.state h → (j : ℕ) → j ≤ h
    → past_by x j ≡ standing_at file t b (x.records + j)
past_is file t b {x} e {h} q j l =
    let k = x.records in
    let s = state_is file t b e in
    let y : Quiet x.state j = record { quiet = λ i m. q.quiet i (omega arith) } in
    standing (passed_state file k s q j l) (rows_are file t b e ∙ counts_past file k s y) (layer_is file t b e ∙ layer_past file k s y t b) refl

-- ---- a turn of a loop over all records

module _ (file t : List ℕ) (b : Bases) {x : Standing} (p : Stands file t b x) where
  -- behind one record more, which is there
  module _ (l : x.records < records_of file) {y : Standing} (e : y ≡ standing_at file t b (x.records + 1)) where
    pub stands_behind : Stands file t b y
    stands_behind = stands file t b e (omega arith)

  -- behind quiet records
  pub stands_past : (most : ℕ) {y : Standing} → y ≡ past_by x (quiet_in file most x) → Stands file t b y
  stands_past most e =
      stands file t b (e ∙ past_is file t b p.here (are_quiet file most x) (quiet_in file most x) (omega arith))
      (omega (arith, p.within, quiet_left file most x))

pub records_past : (x : Standing) (h : ℕ) {y : Standing} → y ≡ past_by x h → y.records ≡ x.records + h
records_past x h e = ap (λ (z : Standing). z.records) e
