-- The rows of a file's table: row i is what the H with i others before it says. A section is gathered record by record, so the words of a
-- record stand behind those of the records before it. Assumes nothing.
use mathlib.Core.Bool.{Bool, true, false, cond}
use mathlib.Core.List.{List, ◌++◌}
use mathlib.Core.Logic.{⊎_elim}
use mathlib.Core.Path.{◌≡◌, refl, ◌∙◌, ap, subst}
use Prim.Native.Nat.{ℕ, zero, suc, ◌+◌, ◌≤◌, ◌<◌}
use native.Mathlib.Nat.{le_of_suc-le-suc, eq-or-lt_of_le}
use native.Mathlib.Numerals.{add-one}
use native.Mathlib.Omega.{arith}
use lib.Dec.{ltb, lit≤}
use lib.ListN.{length, get_or, length-append, get_or-append}
use lib.Seq.{get_or-append-add}
use borrow.Author.Tests.{ltb-true, ltb-false, le-leb}
use Rattle.records.specs.View.{record_of}
use Rattle.records.specs.Reading.{head_letters}
use Rattle.records.specs.Columns.{layer_nodes, layer_lines, layer_areas}
use Rattle.rules.specs.declared.Due.{Due}
use Rattle.rules.specs.declared.Due.TheVariants as due
use Rattle.walk.specs.Row.{row_length, head_word, nodes_word, lines_word, areas_word, letters_word}
use Rattle.walk.specs.States.{size_at, due_of, state_at, counts_at}
use Rattle.walk.specs.Stages.{records_of}
use Rattle.walk.specs.Table.{row_words, line_words, area_words, gather, table_of}
use Rattle.walk.proofs.Dues.{grown}
use Rattle.walk.proofs.Filling.{counted}
use Rattle.walk.proofs.Judging.{records_small}
use Rattle.walk.proofs.Walking.{counts_small}
use Rattle.layers.specs.declared.Bases.{Bases}
use Rattle.layers.specs.Naming.{row_word, row_layer, layer_in}
use Rattle.layers.specs.Passing.{is_layer, bases_in, layer_of}
use Rattle.layers.proofs.Passing.{counts_step}

-- ---- the words of a record in a section

-- what g takes from the record behind the first k
abbrev taken : (Due → List ℕ → ℕ → List ℕ) → List ℕ → ℕ → List ℕ
taken g file k = g (due_of (state_at file k)) (record_of file (suc k)) (suc k)

-- word j of it stands in the section of the first n records, behind what was taken before
pub record Gathered (g : Due → List ℕ → ℕ → List ℕ) (file : List ℕ) (k n j : ℕ) : Type 0 where
  pub short : length (gather g file k) + j < length (gather g file n)
  pub word : get_or (gather g file n) (length (gather g file k) + j) 0 ≡ get_or (taken g file k) j 0

gathered_last : (g : Due → List ℕ → ℕ → List ℕ) (file : List ℕ) (k j : ℕ) → j < length (taken g file k) → Gathered g file k (suc k) j
unfolding gather
gathered_last g file k j m = record {
  short = rw length-append (omega arith);
  word = get_or-append-add (gather g file k) (taken g file k) j 0;
}

gathered_more : (g : Due → List ℕ → ℕ → List ℕ) (file : List ℕ) (k n j : ℕ) → Gathered g file k n j → Gathered g file k (suc n) j
unfolding gather
gathered_more g file k n j h = record {
  short = rw length-append (omega (arith, h.short));
  word = get_or-append (gather g file n) (taken g file n) 0 (length (gather g file k) + j) h.short ∙ h.word;
}

pub gathered : (g : Due → List ℕ → ℕ → List ℕ) (file : List ℕ) (k n j : ℕ) → k < n → j < length (taken g file k) → Gathered g file k n j
gathered g file k zero j l m = absurd (omega arith)
gathered g file k (suc n) j l m =
    ⊎_elim
    (λ e. subst (λ (i : ℕ). Gathered g file k (suc i) j) e (gathered_last g file k j m))
    (λ u. gathered_more g file k n j (gathered g file k n j u m))
    (eq-or-lt_of_le (le_of_suc-le-suc l))

-- ---- a number that grows

-- where f passes p on its way to f n
pub record Passes (f : ℕ → ℕ) (p n k : ℕ) : Type 0 where
  pub before : k < n
  pub above : f k ≤ p
  pub below : p < f (suc k)

passes_by : (f : ℕ → ℕ) (p n : ℕ) (b : Bool) → ltb p (f n) ≡ b → p < f (suc n) → (p < f n → (k : ℕ) × Passes f p n k) → (k : ℕ) × Passes f p (suc n) k
passes_by f p n true e l h =
    let q = h (ltb-true p (f n) e) in
    (q.0, record { before = omega (arith, q.1.before); above = q.1.above; below = q.1.below })
passes_by f p n false e l h = (n, record { before = omega arith; above = ltb-false p (f n) e; below = l })

pub passes : (f : ℕ → ℕ) (p n : ℕ) → f 0 ≤ p → p < f n → (k : ℕ) × Passes f p n k
passes f p zero a l = absurd (omega arith)
passes f p (suc n) a l = passes_by f p n (ltb p (f n)) refl l (passes f p n a)

-- ---- rows

-- a row that a file can have is a layer
pub row_layer_lem : (t : List ℕ) (b : Bases) (i : ℕ) → i ≤ 6399936 → layer_in t b i ≡ row_layer t b i
unfolding layer_in
row_layer_lem t b i l = rw (le-leb i 6399936 l)

-- a file has no more layers than there may be records
pub is_row : (file : List ℕ) (i : ℕ) → i ≤ (counts_at file (records_of file)).layers → layer_of file i ≡ row_layer (table_of file) (bases_in file) i
is_row file i l =
    row_layer_lem (table_of file) (bases_in file) i (omega (arith, (counts_small file (records_of file)).layers, records_small file))

-- the row that an H gives, the record t with the number r
abbrev head_row : List ℕ → ℕ → List ℕ
head_row t r = row_words (due.Layer 0) t r

head_words : (d : Due) (t : List ℕ) (r : ℕ) → is_layer d ≡ true → row_words d t r ≡ head_row t r
head_words (due.Mesh last) t r e = cc
head_words (due.Layer last) t r e = refl
head_words (due.Node layer last) t r e = cc
head_words (due.Line layer last letters) t r e = cc
head_words (due.Coordinates left) t r e = cc
head_words (due.Area layer last) t r e = cc
head_words (due.Loop last count left) t r e = cc

-- row i and the record that it is of: the H behind the first k records
pub record RowAt (file : List ℕ) (i k : ℕ) : Type 0 where
  pub within : k < records_of file
  pub due : is_layer (due_of (state_at file k)) ≡ true
  pub place : (counts_at file k).layers ≡ i
  pub head : (layer_of file i).head ≡ suc k
  pub nodes : (layer_of file i).nodes ≡ size_at (record_of file (suc k)) layer_nodes
  pub lines : (layer_of file i).lines ≡ size_at (record_of file (suc k)) layer_lines
  pub areas : (layer_of file i).areas ≡ size_at (record_of file (suc k)) layer_areas
  pub letters : row_word (table_of file) i letters_word ≡ head_letters (record_of file (suc k))

module _ (file : List ℕ) (k : ℕ) (l : k < records_of file) (h : is_layer (due_of (state_at file k)) ≡ true) where
  -- word j of the row of an H
  pub head_word_lem : (j : ℕ) → j < row_length → row_word (table_of file) (counts_at file k).layers j ≡ get_or (head_row (record_of file (suc k)) (suc k)) j 0
  unfolding table_of
  head_word_lem j m =
      let n = records_of file in
      let e = head_words (due_of (state_at file k)) (record_of file (suc k)) (suc k) h in
      let w = gathered row_words file k n j l (rw e m) in
      rw (← (counted file k).rows)
      (get_or-append (gather row_words file n) (gather line_words file n ++ gather area_words file n) 0 (length (gather row_words file k) + j) w.short
      ∙ w.word ∙ ap (λ (ws : List ℕ). get_or ws j 0) e)

  -- as many rows stand before it as layers came
  pub row_at : RowAt file (counts_at file k).layers k
  row_at =
      let e = is_row file (counts_at file k).layers (grown file (records_of file) k (omega arith)).layers in
      record {
        within = l;
        due = h;
        place = refl;
        head = rw e (head_word_lem head_word (lit≤ tt));
        nodes = rw e (head_word_lem nodes_word (lit≤ tt));
        lines = rw e (head_word_lem lines_word (lit≤ tt));
        areas = rw e (head_word_lem areas_word (lit≤ tt));
        letters = head_word_lem letters_word (lit≤ tt);
      }

rising : (b : Bool) {x y i : ℕ} → y ≡ x + cond b 1 0 → x ≤ i → i < y → (b ≡ true) × (x ≡ i)
rising true e l m = (refl, omega arith)
rising false e l m = absurd (omega arith)

-- each row is of an H
pub row_laid : (file : List ℕ) (i : ℕ) → i < (counts_at file (records_of file)).layers → (k : ℕ) × RowAt file i k
unfolding counts_at
row_laid file i l =
    let q = passes (λ k. (counts_at file k).layers) i (records_of file) (omega arith) l in
    let k = q.0 in
    let r = rising (is_layer (due_of (state_at file k))) (rw add-one at (counts_step file k)) q.1.above q.1.below in
    (k, rw r.1 at (row_at file k q.1.before r.0))
