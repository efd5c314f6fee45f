-- The lines and the areas of a file's table: word m of a layer is the record before which m of that layer came. Each H opens as many as its
-- row says, and no further H comes before they are there; so what came is what the rows before the last one say, and what came of the last.
-- Assumes nothing.
use mathlib.Core.Bool.{Bool, true, false}
use mathlib.Core.List.{List, [], ◌∷◌}
use mathlib.Core.Logic.{⊎_elim}
use mathlib.Core.Path.{◌≡◌, refl, sym, ◌∙◌, ap}
use Prim.Native.Nat.{ℕ, zero, suc, ◌+◌, ◌-◌, ◌≤◌, ◌<◌}
use native.Mathlib.Nat.{le_of_suc-le-suc, eq-or-lt_of_le}
use native.Mathlib.Numerals.{add-one}
use native.Mathlib.Omega.{arith}
use lib.Dec.{ltb, lit≤}
use lib.IntN.{pos}
use lib.ListN.{length, get_or}
use borrow.Author.Tests.{ltb-true, ltb-false}
use Rattle.records.specs.View.{record_of}
use Rattle.rules.specs.declared.Due.{Due}
use Rattle.walk.specs.declared.State.{State}
use Rattle.walk.specs.declared.Counts.{Counts}
use Rattle.walk.specs.States.{due_of, next_for, next_of, state_at, counted_for, counts_at}
use Rattle.walk.specs.Stages.{records_of, may_end}
use Rattle.walk.specs.Table.{gather, table_of}
use Rattle.walk.proofs.Dues.{grown, idle_end}
use Rattle.layers.specs.Naming.{row_word, words_before}
use Rattle.layers.specs.Passing.{is_layer, layer_at, bases_in, layer_of}
use Rattle.layers.proofs.Rows.{gathered, passes}
use Rattle.layers.proofs.Sections.{Section, word_of, base_in, words_for, many_in, first_in, record_in, total_in, due_in, due_now, count_in, own_in, came_in}
use Rattle.layers.proofs.Sections.{Tally, tally_of, came_one, new_row, none_left, tally_at, Effect, own, head, mesh, other, effect_at, none_yet}
use Rattle.layers.proofs.Sections.{came_most, came_all, own_word, due_number, head_total, many_is, first_is, many_words, word_in, named}

-- ---- the words of the rows, added up

module _ (t : List ℕ) (j : ℕ) where
  words_last : (i : ℕ) → 0 < i → words_before t j i ≡ words_before t j (i - 1) + row_word t (i - 1) j
  unfolding words_before
  words_last zero l = absurd (omega arith)
  words_last (suc i) l =
      let z : suc i - 1 ≡ i = omega arith in
      rw z

  -- a row's words stand before those of a later one
  pub words_more : (i o : ℕ) → i < o → words_before t j i + row_word t i j ≤ words_before t j o
  unfolding words_before
  words_more i zero l = absurd (omega arith)
  words_more i (suc o) l =
      ⊎_elim
      (λ e. rw e (omega arith))
      (λ m. omega (arith, words_more i o m))
      (eq-or-lt_of_le (le_of_suc-le-suc l))

  not_before : (i o m p : ℕ) (b : Bool) → ltb i o ≡ b → words_before t j i + m ≡ words_before t j o + p → m < row_word t i j → o ≤ i
  not_before i o m p true e q l = absurd (omega (arith, words_more i o (ltb-true i o e)))
  not_before i o m p false e q l = ltb-false i o e

  -- a place is in one row only
  one_row : (i o m p : ℕ) → words_before t j i + m ≡ words_before t j o + p → m < row_word t i j → p < row_word t o j → i ≡ o
  one_row i o m p q l r =
      let a = not_before i o m p (ltb i o) refl q l in
      let b = not_before o i p m (ltb o i) refl (sym q) r in
      omega arith

-- ---- what came of a section

-- behind so many rows and so many words of the section, whose word of a row is j
record Part (t : List ℕ) (j : ℕ) (v : Tally) : Type 0 where
  all : v.count + v.own ≡ words_before t j v.rows + v.came
  some : 0 < v.own → 0 < v.rows
  last : 0 < v.own → v.own ≡ row_word t (v.rows - 1) j

-- another one came
part_one : {t : List ℕ} {j : ℕ} {v : Tally} → Part t j v → Part t j (came_one v)
part_one p = record { all = omega (arith, p.all); some = p.some; last = p.last }

-- none is left, and another layer begins, or a mesh
part_row : {t : List ℕ} {j : ℕ} {v : Tally} (more : ℕ) → v.came ≡ v.own → row_word t v.rows j ≡ more → Part t j v → Part t j (new_row more v)
unfolding words_before
part_row {v = v} more e w p =
    let z : v.rows + 1 - 1 ≡ v.rows = omega arith in
    record { all = rw add-one (omega (arith, p.all)); some = λ _. omega arith; last = λ _. rw z (sym w) }

part_none : {t : List ℕ} {j : ℕ} {v : Tally} → v.came ≡ v.own → Part t j v → Part t j (none_left v)
part_none e p = record { all = omega (arith, p.all); some = λ l. absurd (omega arith); last = λ l. absurd (omega arith) }

part_is : {t : List ℕ} {j : ℕ} {v w : Tally} → v ≡ w → Part t j w → Part t j v
part_is e p = rw e p

-- the next word of a layer that has not all yet: its row and its place
record Next (t : List ℕ) (j : ℕ) (v : Tally) : Type 0 where
  row : v.rows - 1 < v.rows
  place : v.count ≡ words_before t j (v.rows - 1) + v.came
  inside : v.came < row_word t (v.rows - 1) j

next : {t : List ℕ} {j : ℕ} {v : Tally} → Part t j v → v.came < v.own → Next t j v
next {t = t} {j = j} {v = v} p l =
    let a : 0 < v.rows = p.some (omega arith) in
    let b = p.last (omega arith) in
    record { row = omega arith; place = omega (arith, words_last t j v.rows a, p.all); inside = omega arith }

-- it is the only one at its place
only : {t : List ℕ} {j : ℕ} {v : Tally} {i m : ℕ} → Next t j v → v.count ≡ words_before t j i + m → m < row_word t i j → (v.rows - 1 ≡ i) × (v.came ≡ m)
only {t = t} {j = j} {v = v} {i = i} {m = m} x e l =
    let r = one_row t j (v.rows - 1) i v.came m (sym x.place ∙ e) x.inside l in
    let y = rw r at x.place in
    (r, omega arith)

-- ---- from record to record

count_is : {v w : Tally} → v ≡ w → v.count ≡ w.count
count_is e = ap (λ (v : Tally). v.count) e

-- a record of the section has a word
wordless : {A : Type 0} (x : Section) (d : Due) (r : List ℕ) (code letters m : ℕ) → words_for x d r 0 ≡ [] → d ≡ due_in x code letters m → A
wordless x d r code letters m n e =
    let z : ◌≡◌ {A = ℕ} 1 0 = ap length (sym (own_word x code letters m r 0) ∙ ap (λ d. words_for x d r 0) (sym e) ∙ n) in
    absurd (omega arith)

module _ {x : Section} {s : State} {c : Counts} {r : List ℕ} {d : Due} where
  part_next : {t : List ℕ} → Effect x s c r d → came_in x s ≤ own_in x s → (is_layer d ≡ true → row_word t c.layers (word_of x) ≡ total_in x r)
      → Part t (word_of x) (tally_of x c s) → Part t (word_of x) (tally_of x (counted_for d c r) (next_for d s r))
  part_next (own e l q) o h p = part_is q (part_one p)
  part_next (head n e l q) o h p = part_is q (part_row (total_in x r) (omega arith) (h e) p)
  part_next (mesh n l q) o h p = part_is q (part_none (omega arith) p)
  part_next (other n q) o h p = part_is q p

  -- where one is due: its number, and that the layer has not all yet
  due_by : (code letters m : ℕ) → Effect x s c r d → d ≡ due_in x code letters m → (m ≡ came_in x s) × (came_in x s < own_in x s)
  due_by code letters m (own e l q) f = (due_number x code letters _ _ m (came_in x s) (sym f ∙ e), l)
  due_by code letters m (head n e l q) f = wordless x d r code letters m n f
  due_by code letters m (mesh n l q) f = wordless x d r code letters m n f
  due_by code letters m (other n q) f = wordless x d r code letters m n f

  -- where their count comes past p, one is due
  passed : {p : ℕ} → Effect x s c r d → count_in x c ≤ p → p < count_in x (counted_for d c r) → (d ≡ due_now x s (came_in x s)) × (count_in x c ≡ p)
  passed (own e l q) a b = (e, omega (arith, count_is q))
  passed (head n e l q) a b = absurd (omega (arith, count_is q))
  passed (mesh n l q) a b = absurd (omega (arith, count_is q))
  passed (other n q) a b = absurd (omega (arith, count_is q))

-- record n of the section, counted from 0 over all layers: that behind the first k
pub record Nth (x : Section) (file : List ℕ) (n k : ℕ) : Type 0 where
  pub within : k < records_of file
  pub due : due_of (state_at file k) ≡ due_now x (state_at file k) (came_in x (state_at file k))
  pub before : count_in x (counts_at file k) ≡ n

module _ (x : Section) (file : List ℕ) where
  parts : (k : ℕ) → k ≤ records_of file → Part (table_of file) (word_of x) (tally_at x file k)
  unfolding counts_at state_at next_of words_before
  parts zero l = part_is (none_yet x) (record { all = refl; some = λ m. m; last = λ m. absurd (omega arith) })
  parts (suc k) l = part_next (effect_at x file k) (came_most x file k) (head_total x file k l) (parts k (omega arith))

  -- where the file may end, all that the rows say has come
  pub all_came : may_end (due_of (state_at file (records_of file))) ≡ true
      → words_before (table_of file) (word_of x) (counts_at file (records_of file)).layers ≡ count_in x (counts_at file (records_of file))
  all_came h =
      let n = records_of file in
      omega (arith, (parts n (omega arith)).all, came_most x file n, came_all x (idle_end (state_at file n) h))

  -- each that was counted is there
  pub nth : (n : ℕ) → n < count_in x (counts_at file (records_of file)) → (k : ℕ) × Nth x file n k
  unfolding counts_at
  nth n l =
      let z : count_in x (counts_at file 0) ≡ 0 = count_is (none_yet x) in
      let q = passes (λ k. count_in x (counts_at file k)) n (records_of file) (omega arith) l in
      let d = passed (effect_at x file q.0) q.1.above q.1.below in
      (q.0, record { within = q.1.before; due = d.0; before = d.1 })

-- ---- a record's word

-- the record behind the first k is record m of its section in layer i
pub record Place (x : Section) (file : List ℕ) (k i m : ℕ) : Type 0 where
  pub layer : i < (counts_at file (records_of file)).layers
  pub inside : m < many_in x (layer_of file i)
  pub place : count_in x (counts_at file k) ≡ words_before (table_of file) (word_of x) i + m

-- where record m of a section is due
module _ (x : Section) (file : List ℕ) (k : ℕ) (l : k < records_of file) (code letters m : ℕ) (e : due_of (state_at file k) ≡ due_in x code letters m) where
  -- m of the layer came, and it has not all yet
  pub number_of_lem : (m ≡ came_in x (state_at file k)) × (came_in x (state_at file k) < own_in x (state_at file k))
  number_of_lem = due_by code letters m (effect_at x file k) e

  -- the layers that came up to here are among those of the file
  here : (counts_at file k).layers - 1 ≤ (counts_at file (records_of file)).layers
  here = omega (arith, (grown file (records_of file) k (omega arith)).layers)

  -- it is record m of its layer, whose records come behind those of the layers before it
  pub place_of : Place x file k ((counts_at file k).layers - 1) m
  place_of =
      let d = number_of_lem in
      let y = next (parts x file k (omega arith)) d.1 in
      record {
        layer = omega (arith, y.row, (grown file (records_of file) k (omega arith)).layers);
        inside = rw (many_is x file ((counts_at file k).layers - 1) here) (omega (arith, y.inside, d.0));
        place = omega (arith, y.place, d.0);
      }

  -- its word stands behind those of its section that came before it
  there : get_or (table_of file) (base_in x (bases_in file) + count_in x (counts_at file k)) 0 ≡ suc k
  there =
      let r = record_of file (suc k) in
      let before = length (gather (words_for x) file k) in
      let v : words_for x (due_of (state_at file k)) r (suc k) ≡ suc k ∷ [] = ap (λ d. words_for x d r (suc k)) e ∙ own_word x code letters m r (suc k) in
      let w = gathered (words_for x) file k (records_of file) 0 l (rw v (lit≤ tt)) in
      let z : count_in x (counts_at file k) ≡ before + 0 = omega (arith, many_words x file k) in
      rw z (word_in x file (before + 0) w.short ∙ w.word ∙ ap (λ ws. get_or ws 0 0) v)

  -- it is word m of its layer
  pub word_of_lem : get_or (table_of file) (first_in x (layer_at file (table_of file) (bases_in file) k) + m) 0 ≡ suc k
  unfolding layer_at
  word_of_lem =
      let i = (counts_at file k).layers - 1 in
      let z : first_in x (layer_of file i) + m ≡ base_in x (bases_in file) + count_in x (counts_at file k) = omega (arith, first_is x file i here, place_of.place) in
      rw z there

-- ---- a layer's word

-- record m of a section in layer i: that behind the first k
pub record RecordAt (x : Section) (file : List ℕ) (i m k : ℕ) : Type 0 where
  pub within : k < records_of file
  pub due : due_of (state_at file k) ≡ due_now x (state_at file k) m
  pub layer : layer_at file (table_of file) (bases_in file) k ≡ layer_of file i
  pub word : record_in x (table_of file) (layer_of file i) (pos (suc m)) ≡ suc k

-- where the file may end, each line and each area that a row says is there
pub laid : (x : Section) (file : List ℕ) → may_end (due_of (state_at file (records_of file))) ≡ true
    → (i m : ℕ) → i < (counts_at file (records_of file)).layers → m < many_in x (layer_of file i) → (k : ℕ) × RecordAt x file i m k
unfolding layer_at
laid x file h i m l a =
    let t = table_of file in
    let j = word_of x in
    let b : m < row_word t i j = rw (many_is x file i (omega arith)) at a in
    let q = nth x file (words_before t j i + m) (omega (arith, b, all_came x file h, words_more t j i (counts_at file (records_of file)).layers l)) in
    let k = q.0 in
    let s = state_at file k in
    let c = q.1.within in
    let d = number_of_lem x file k c _ _ (came_in x s) q.1.due in
    let y = only (next (parts x file k (omega (arith, c))) d.1) q.1.before b in
    let e : due_of s ≡ due_now x s m = q.1.due ∙ ap (due_now x s) y.1 in
    let f : layer_at file t (bases_in file) k ≡ layer_of file i = ap (layer_of file) y.0 in
    (k, record { within = c; due = e; layer = f; word = named x t (layer_of file i) m a ∙ rw f at (word_of_lem x file k c _ _ m e) })
