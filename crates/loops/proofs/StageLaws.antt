-- What stage 5 keeps of lines and knows of an area, from record to record. Assumes nothing.
use mathlib.Core.Bool.{Bool, true, false, cond}
use mathlib.Core.List.{List, []}
use mathlib.Core.Path.{◌≡◌, refl, ◌∙◌}
use Prim.Native.Nat.{ℕ, zero, suc, ◌+◌, ◌-◌, ◌<◌, min}
use native.Mathlib.Numerals.{add-one}
use native.Mathlib.Omega.{arith}
use lib.Dec.{ltb}
use lib.IntN.{ℤ}
use lib.ListN.{get_or}
use borrow.Author.Tests.{le-ltb, ltb-true, ltb-false}
use Rattle.records.specs.View.{record_of}
use Rattle.rules.specs.declared.Due.{Due}
use Rattle.rules.specs.declared.Due.TheVariants as due
use Rattle.walk.specs.declared.State.{State}
use Rattle.walk.specs.States.{due_of, next_for, next_of, state_at, counts_at}
use Rattle.walk.specs.Stages.{records_of}
use Rattle.walk.specs.Quiet.{is_quiet}
use Rattle.walk.proofs.Dues.{grown}
use Rattle.walk.proofs.Passing.{by_quiet}
use Rattle.layers.specs.declared.Bases.{Bases}
use Rattle.layers.specs.declared.Layer.{Layer}
use Rattle.layers.specs.declared.Standing.{Standing}
use Rattle.layers.specs.Naming.{layer_in}
use Rattle.layers.specs.Passing.{is_layer, layer_at}
use Rattle.layers.specs.Standing.{standing_at}
use Rattle.layers.proofs.Passing.{counts_step}
use Rattle.layers.proofs.Walks.{state_is, rows_are, layer_is, state_behind, rows_behind, layer_behind}
use Rattle.entries.specs.Keeping.{walked_to, Kept, SoundLayer}
use Rattle.entries.proofs.Keeping.{kept_all}
use Rattle.loops.specs.Loops.{area_record, area_checks, areas_at}
use Rattle.loops.specs.Scanning.{Unrepeated, KeptFor, SoundTable, KnownBehind}
use Rattle.loops.proofs.Repeats.{unrepeated_none}

-- ---- before the first H nothing but an M or an H is due

record Bare (s : State) : Type 0 where
  points : s.line.points ≡ 0
  entries : s.area.entries ≡ 0
  loops : s.area.loops ≡ 0
  nodes : s.layer.nodes ≡ 0
  lines : s.layer.lines ≡ 0
  areas : s.layer.areas ≡ 0

bare_due : (s : State) → Bare s → due_of s ≡ cond (ltb 0 s.mesh.layers) (due.Layer s.layer.code) (due.Mesh s.mesh.code)
unfolding due_of
bare_due s h =
    rw (
      le-ltb 0 s.line.points (omega (arith, h.points)),
      le-ltb 0 s.area.entries (omega (arith, h.entries)),
      le-ltb s.area.begun s.area.loops (omega (arith, h.loops)),
      le-ltb s.layer.node s.layer.nodes (omega (arith, h.nodes)),
      le-ltb s.layer.line s.layer.lines (omega (arith, h.lines)),
      le-ltb s.layer.area s.layer.areas (omega (arith, h.areas)),
    )

module _ (file : List ℕ) where
  bare_next : (k : ℕ) → Bare (state_at file k) → (counts_at file (suc k)).layers ≡ 0 → (b : Bool) → ltb 0 (state_at file k).mesh.layers ≡ b
      → Bare (state_at file (suc k))
  unfolding state_at next_of counts_at
  bare_next k h c true e =
      let d : due_of (state_at file k) ≡ due.Layer (state_at file k).layer.code = bare_due (state_at file k) h ∙ rw e in
      absurd (omega (arith, rw d at c))
  bare_next k h c false e =
      let d : due_of (state_at file k) ≡ due.Mesh (state_at file k).mesh.code = bare_due (state_at file k) h ∙ rw e in
      rw d (record { points = refl; entries = refl; loops = refl; nodes = refl; lines = refl; areas = refl })

  bare_at : (k : ℕ) → (counts_at file k).layers ≡ 0 → Bare (state_at file k)
  unfolding state_at
  bare_at zero c = record { points = refl; entries = refl; loops = refl; nodes = refl; lines = refl; areas = refl }
  bare_at (suc k) c =
      let u = rw (← add-one k) at c in
      bare_next k (bare_at k (omega (arith, counts_step file k, u))) c (ltb 0 (state_at file k).mesh.layers) refl

module _ (file t : List ℕ) (l : Layer) (ms : List ℤ) where
  any_kept : (d : Due) → Kept file t l ms → KeptFor d file t l ms
  any_kept (due.Mesh last) h = tt
  any_kept (due.Layer last) h = tt
  any_kept (due.Node layer last) h = tt
  any_kept (due.Line layer last letters) h = tt
  any_kept (due.Coordinates left) h = tt
  any_kept (due.Area layer last) h = tt
  any_kept (due.Loop last count left) h = h

  none_kept : (b : Bool) (i j : ℕ) → KeptFor (cond b (due.Layer i) (due.Mesh j)) file t l ms
  none_kept true i j = tt
  none_kept false i j = tt

-- so what is to be kept before a record is kept where it is of a layer that has begun
pub kept_for : (file t : List ℕ) (b : Bases) {x : Standing} → x ≡ standing_at file t b x.records → {d : Due} → d ≡ due_of x.state
    → (ms : List ℤ) → (0 < x.rows → Kept file t x.layer ms) → KeptFor d file t x.layer ms
kept_for file t b {x} e {d} f ms h = by (ltb 0 x.rows) refl
  where
    by : (y : Bool) → ltb 0 x.rows ≡ y → KeptFor d file t x.layer ms
    by true q = any_kept file t x.layer ms d (h (ltb-true 0 x.rows q))
    by false q =
        let z = bare_due (state_at file x.records) (bare_at file x.records (omega (arith, rows_are file t b e, ltb-false 0 x.rows q))) in
        rw (f, state_is file t b e, z)
        (none_kept file t x.layer ms (ltb 0 (state_at file x.records).mesh.layers)
        (state_at file x.records).layer.code (state_at file x.records).mesh.code)

-- ---- slots that repeat none

-- a is the A behind the layer's first `area`
pub next_area : (file t : List ℕ) (l : Layer) (area : ℕ) {a n : ℕ} → a ≡ get_or t (l.area + area) 0 → Unrepeated file a n
    → Unrepeated file (area_record t l (area + 1)) n
unfolding area_record
next_area file t l area e u =
    let z : (area + 1) - 1 ≡ area = omega arith in
    rw (z, ← e) u

module _ (file t : List ℕ) (l y : Layer) (s : State) (w : List ℕ) where
  none_known : (a : ℕ) {n : ℕ} → n ≡ 0 → Unrepeated file a n
  none_known a h = rw h (unrepeated_none file a)

  -- case by case: another layer than l begins behind an H only, and an A alone raises the count of areas
  known_by : (d : Due) {n : ℕ} → KnownBehind d file t l s.layer.area n
      → Unrepeated file (area_record t (cond (is_layer d) y l) (next_for d s w).layer.area) n
  known_by (due.Mesh last) h = none_known _ h
  known_by (due.Layer last) h = none_known _ h
  known_by (due.Node layer last) h = none_known _ h
  known_by (due.Line layer last letters) h = none_known _ h
  known_by (due.Coordinates left) h = none_known _ h
  known_by (due.Area layer last) h = h
  known_by (due.Loop last count zero) h = h
  known_by (due.Loop last count (suc left)) h = h

-- ---- behind one record more, due as d

-- the walk stands at x, then at y
module _ (file t : List ℕ) (b : Bases) {x : Standing} (e : x ≡ standing_at file t b x.records) {y : Standing} (q : y ≡ standing_at file t b (x.records + 1))
    {d : Due} (f : d ≡ due_of x.state) where
  -- the layer that begins with an H is one of the file's
  layer_sound : x.records < records_of file → SoundTable file t b → is_layer d ≡ true → SoundLayer file t y.layer
  unfolding layer_at
  layer_sound l h u =
      let c : y.rows ≡ x.rows + 1 = rows_behind file t b e q ∙ rw (← f, u) in
      let g = (grown file (records_of file) (x.records + 1) (omega arith)).layers in
      rw (layer_is file t b q) (h.layers ((counts_at file (x.records + 1)).layers - 1) (omega (arith, c, rows_are file t b q, g)))

  -- the line measures that are kept are those of the next record's layer: behind an H, its lines'
  pub kept_new : {ms : List ℤ} → is_layer d ≡ true → ms ≡ walked_to file t y.layer (min y.layer.lines 9999) → x.records < records_of file
      → SoundTable file t b → Kept file t y.layer ms
  kept_new u p l s = kept_all file t y.layer p (layer_sound l s u)

  -- behind another, those that were
  pub kept_on : {ms : List ℤ} → is_layer d ≡ false → (0 < x.rows → Kept file t x.layer ms) → 0 < y.rows → Kept file t y.layer ms
  kept_on u h p =
      let r : y.rows ≡ x.rows + 0 = rows_behind file t b e q ∙ rw (← f, u) in
      rw (layer_behind file t b e q, ← f, u) (h (omega (arith, p, r)))

  -- the slots that are known are those of its area
  pub known_next : {n : ℕ} → KnownBehind d file t x.layer x.state.layer.area n → Unrepeated file (area_record t y.layer y.state.layer.area) n
  unfolding next_of
  known_next h =
      rw (state_behind file t b e q, layer_behind file t b e q, ← f)
      (known_by file t x.layer (layer_in t b x.rows) x.state (record_of file (x.records + 1)) d h)

-- ---- nothing is asked of a quiet record

pub quiet_none : (file t : List ℕ) (x : Standing) → is_quiet (due_of x.state) ≡ true → areas_at file t x ≡ []
quiet_none file t x =
    by_quiet (λ d. area_checks d file t x.layer x.state.layer.area (x.records + 1) ≡ []) (λ layer last. refl) (λ left. refl) (due_of x.state)
