-- The states and the counts of the walk, one record at a time, and how large the counts can be. Assumes nothing.
use mathlib.Core.List.{List}
use mathlib.Core.Path.{◌≡◌, refl, ◌∙◌, ap}
use Prim.Native.Nat.{ℕ, zero, suc, ◌+◌, ◌*◌, ◌≤◌, ◌<◌}
use native.Mathlib.Numerals.{add-one}
use native.Mathlib.Omega.{arith}
use lib.Dec.{lit≤}
use lib.IntN.{ℤ}
use mir.Facts.{to_z-of_z}
use mir.Syntax.{w32}
use mir.Val.{SFits, to_z, of_z}
use Rattle.fields.specs.Number.{number_at}
use Rattle.std.specs.Prelude.{Option, Some, None}
use Rattle.fields.proofs.FieldLaws.{number_small}
use Rattle.records.specs.View.{record_of}
use Rattle.permitted.specs.Permitted.{size}
use Rattle.rules.specs.declared.Due.{Due}
use Rattle.rules.specs.declared.Due.TheVariants.{Mesh, Layer, Node, Line, Coordinates, Area, Loop}
use Rattle.walk.specs.Row.{most_layer_words}
use Rattle.walk.specs.States.{size_in, due_of, start, next_for, went_on, next_of, state_at, no_counts, layer_words, Countable, counted_for, counts_at}
use Rattle.walk.specs.declared.State.{State}
use Rattle.walk.specs.declared.Counts.{Counts}

-- ---- a number's size

-- it has at most 6 digits, whatever stands there
pub size_small : (t : List ℕ) (c w : ℕ) → size_in t c w ≤ 999999
unfolding size_in
size_small t c w = omega (arith, number_small t c w)

-- by the reader's answer a: none; the number v, as the machine has it
module _ (t : List ℕ) (c w : ℕ) {a : Option ℤ} (e : a ≡ number_at t c w) where
  pub size_none : a ≡ None → 0 ≡ size_in t c w
  unfolding size_in
  size_none h = rw (← e, h)

  pub size_value : {v : ℤ} {r : ℕ} → a ≡ Some v → SFits w32 v → r ≡ size (to_z w32 (of_z w32 v)) → r ≡ size_in t c w
  unfolding size_in
  size_value h f q = rw (← e, h) (q ∙ ap size (to_z-of_z f))

-- ---- the states

next_entries_by : (s : State) (t : List ℕ) (n : ℕ) → 0 < n → next_for (Loop s.area.begun s.area.count n) s t ≡ went_on s
next_entries_by s t zero l = absurd (omega arith)
next_entries_by s t (suc n) l = refl

-- a loop goes on where entries of it are left
pub next_entries : (s : State) (t : List ℕ) → 0 < s.area.entries → next_for (Loop s.area.begun s.area.count s.area.entries) s t ≡ went_on s
next_entries s t l = next_entries_by s t s.area.entries l

module _ (file : List ℕ) where
  -- before the first record
  pub at_none : start ≡ state_at file 0
  unfolding state_at
  at_none = refl

  -- behind one record more
  pub next_state : (k : ℕ) {s u : State} → s ≡ state_at file k → u ≡ next_of s (record_of file (k + 1)) → u ≡ state_at file (k + 1)
  unfolding state_at
  next_state k e h = rw (add-one, ← e) (rw add-one at h)

-- ---- the counts

module _ (file : List ℕ) where
  -- of no record
  pub counts_none : no_counts ≡ counts_at file 0
  unfolding counts_at
  counts_none = refl

  -- of one record more, which is due as d
  pub next_counts : (k : ℕ) {c e : Counts} {d : Due} → c ≡ counts_at file k → d ≡ due_of (state_at file k)
      → e ≡ counted_for d c (record_of file (k + 1)) → e ≡ counts_at file (k + 1)
  unfolding counts_at
  next_counts k p q h = rw (add-one, ← p, ← q) (rw add-one at h)

-- the counts of k records: each is at most k, and a layer's words are at most its row and two numbers
pub record Upto (k : ℕ) (c : Counts) : Type 0 where
  pub meshes : c.meshes ≤ k
  pub layers : c.layers ≤ k
  pub nodes : c.nodes ≤ k
  pub lines : c.lines ≤ k
  pub areas : c.areas ≤ k
  pub words : c.words ≤ most_layer_words * k

words_small : (t : List ℕ) → layer_words t ≤ most_layer_words
unfolding layer_words
words_small t = omega (arith, size_small t 10 5, size_small t 15 5)

upto_more : {k : ℕ} {c : Counts} → Upto k c → Upto (suc k) c
upto_more h = record {
  meshes = omega (arith, h.meshes);
  layers = omega (arith, h.layers);
  nodes = omega (arith, h.nodes);
  lines = omega (arith, h.lines);
  areas = omega (arith, h.areas);
  words = omega (arith, h.words);
}

counted_small : (d : Due) {k : ℕ} {c : Counts} (t : List ℕ) → Upto k c → Upto (suc k) (counted_for d c t)
counted_small (Mesh last) t h =
    let g = upto_more h in
    record { meshes = omega (arith, h.meshes); layers = g.layers; nodes = g.nodes; lines = g.lines; areas = g.areas; words = g.words }
counted_small (Layer last) t h =
    let g = upto_more h in
    record {
      meshes = g.meshes;
      layers = omega (arith, h.layers);
      nodes = g.nodes;
      lines = g.lines;
      areas = g.areas;
      words = omega (arith, h.words, words_small t);
    }
counted_small (Node layer last) t h =
    let g = upto_more h in
    record { meshes = g.meshes; layers = g.layers; nodes = omega (arith, h.nodes); lines = g.lines; areas = g.areas; words = g.words }
counted_small (Line layer last letters) t h =
    let g = upto_more h in
    record { meshes = g.meshes; layers = g.layers; nodes = g.nodes; lines = omega (arith, h.lines); areas = g.areas; words = g.words }
counted_small (Coordinates left) t h = upto_more h
counted_small (Area layer last) t h =
    let g = upto_more h in
    record { meshes = g.meshes; layers = g.layers; nodes = g.nodes; lines = g.lines; areas = omega (arith, h.areas); words = g.words }
counted_small (Loop last count left) t h = upto_more h

none_small : Upto 0 no_counts
none_small = record { meshes = lit≤ tt; layers = lit≤ tt; nodes = lit≤ tt; lines = lit≤ tt; areas = lit≤ tt; words = lit≤ tt }

-- the counts of the first k records are at most k
pub counts_small : (file : List ℕ) (k : ℕ) → Upto k (counts_at file k)
unfolding counts_at
counts_small file zero = none_small
counts_small file (suc k) = counted_small (due_of (state_at file k)) (record_of file (suc k)) (counts_small file k)

-- counts of no more records than there may be can be added to
pub countable : (file : List ℕ) (k : ℕ) → k ≤ 6399936 → Countable (counts_at file k)
countable file k l =
    let h = counts_small file k in
    record {
      meshes = omega (arith, h.meshes);
      layers = omega (arith, h.layers);
      nodes = omega (arith, h.nodes);
      lines = omega (arith, h.lines);
      areas = omega (arith, h.areas);
      words = omega (arith, h.words);
    }
