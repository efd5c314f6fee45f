-- The two sections of a table behind its rows (RULES 8.1): the lines and the areas. What the walk, a layer and the table have of a section
-- is a definition by section, so that a law is stated once for both. Assumes nothing.
use mathlib.Core.Bool.{true, cond, ◌&&◌}
use mathlib.Core.List.{List, [], ◌∷◌, ◌++◌}
use mathlib.Core.Path.{◌≡◌, refl, ◌∙◌, ap}
use Prim.Native.Nat.{ℕ, suc, ◌+◌, ◌*◌, ◌-◌, ◌≤◌, ◌<◌}
use native.Mathlib.Omega.{arith}
use lib.Dec.{leb, lit≤}
use lib.IntN.{ℤ, pos}
use lib.ListN.{length, get_or, get_or-append}
use lib.Seq.{get_or-append-add}
use borrow.Author.Tests.{le-leb}
use Rattle.records.specs.View.{record_of}
use Rattle.records.specs.Columns.{layer_lines, layer_areas}
use Rattle.permitted.specs.Permitted.{within}
use Rattle.rules.specs.declared.Due.{Due}
use Rattle.rules.specs.declared.Due.TheVariants.{Line, Area}
use Rattle.walk.specs.declared.State.{State}
use Rattle.walk.specs.declared.Counts.{Counts}
use Rattle.walk.specs.Row.{row_length, lines_word, areas_word}
use Rattle.walk.specs.States.{size_at, due_of, start, next_for, state_at, no_counts, counted_for, counts_at}
use Rattle.walk.specs.Stages.{records_of}
use Rattle.walk.specs.Table.{row_words, line_words, area_words, gather, table_of}
use Rattle.walk.proofs.Dues.{Idle, by_due, opened}
use Rattle.walk.proofs.Filling.{counted}
use Rattle.walk.proofs.Walking.{next_entries}
use Rattle.layers.specs.declared.Bases.{Bases}
use Rattle.layers.specs.declared.Layer.{Layer}
use Rattle.layers.specs.Naming.{row_word, words_before, row_layer, names, names_line, line_of, area_of}
use Rattle.layers.specs.Passing.{is_layer, bases_of, bases_in, layer_of}
use Rattle.layers.proofs.Rows.{is_row, head_word_lem}

-- behind all rows each line's L record; then each area's A record
pub data Section : Type 0 where
  lines : Section
  areas : Section

-- ---- a section of the table

-- its word of a row
abbrev pub word_of : Section → ℕ
word_of lines = lines_word
word_of areas = areas_word

-- where it begins
abbrev pub base_in : Section → Bases → ℕ
base_in lines b = b.lines
base_in areas b = b.areas

-- the words that a record gives it
abbrev pub words_for : Section → Due → List ℕ → ℕ → List ℕ
words_for lines d t r = line_words d t r
words_for areas d t r = area_words d t r

-- how many words of it a layer has, and where the first of them stands
abbrev pub many_in : Section → Layer → ℕ
many_in lines l = l.lines
many_in areas l = l.areas

abbrev pub first_in : Section → Layer → ℕ
first_in lines l = l.line
first_in areas l = l.area

-- the record that a number names
abbrev pub record_in : Section → List ℕ → Layer → ℤ → ℕ
record_in lines t l v = line_of t l v
record_in areas t l v = area_of t l v

-- ---- a section in the walk

-- its total in an H
abbrev pub total_in : Section → List ℕ → ℕ
total_in lines t = size_at t layer_lines
total_in areas t = size_at t layer_areas

-- record m of it in a layer, counted from 0: an L with the layer's code and letters, or an A with its code
abbrev pub due_in : Section → ℕ → ℕ → ℕ → Due
due_in lines code letters m = Line code m letters
due_in areas code letters m = Area code m

-- the same in the layer of a state
abbrev pub due_now : Section → State → ℕ → Due
due_now x s m = due_in x s.layer.code s.layer.letters m

-- how many records of it came
abbrev pub count_in : Section → Counts → ℕ
count_in lines c = c.lines
count_in areas c = c.areas

-- how many records of it the last layer has, and how many of these came
abbrev pub own_in : Section → State → ℕ
own_in lines s = s.layer.lines
own_in areas s = s.layer.areas

abbrev pub came_in : Section → State → ℕ
came_in lines s = s.layer.line
came_in areas s = s.layer.area

-- these numbers together, with how many rows came
pub record Tally : Type 0 where
  pub rows : ℕ
  pub count : ℕ
  pub own : ℕ
  pub came : ℕ

abbrev pub tally_of : Section → Counts → State → Tally
tally_of x c s = record { rows = c.layers; count = count_in x c; own = own_in x s; came = came_in x s }

abbrev pub no_tally : Tally
no_tally = record { rows = 0; count = 0; own = 0; came = 0 }

-- another record of it came; another layer began, which has n; a mesh began
abbrev pub came_one : Tally → Tally
came_one v = record { rows = v.rows; count = v.count + 1; own = v.own; came = v.came + 1 }

abbrev pub new_row : ℕ → Tally → Tally
new_row n v = record { rows = v.rows + 1; count = v.count; own = n; came = 0 }

abbrev pub none_left : Tally → Tally
none_left v = record { rows = v.rows; count = v.count; own = 0; came = 0 }

-- behind the first k records
abbrev pub tally_at : Section → List ℕ → ℕ → Tally
tally_at x file k = tally_of x (counts_at file k) (state_at file k)

-- ---- what a record does to a section

-- the record r, due as d in the state s behind the counts c: one of the section, an H, an M, or another that leaves the section as it is
pub data Effect (x : Section) (s : State) (c : Counts) (r : List ℕ) (d : Due) : Type 0 where
  own : d ≡ due_now x s (came_in x s) → came_in x s < own_in x s
      → tally_of x (counted_for d c r) (next_for d s r) ≡ came_one (tally_of x c s) → Effect x s c r d
  head : words_for x d r 0 ≡ [] → is_layer d ≡ true → own_in x s ≤ came_in x s
      → tally_of x (counted_for d c r) (next_for d s r) ≡ new_row (total_in x r) (tally_of x c s) → Effect x s c r d
  mesh : words_for x d r 0 ≡ [] → own_in x s ≤ came_in x s
      → tally_of x (counted_for d c r) (next_for d s r) ≡ none_left (tally_of x c s) → Effect x s c r d
  other : words_for x d r 0 ≡ [] → tally_of x (counted_for d c r) (next_for d s r) ≡ tally_of x c s → Effect x s c r d

effect : (x : Section) (s : State) (c : Counts) (r : List ℕ) → Effect x s c r (due_of s)
effect lines s c r =
    by_due (λ d. Effect lines s c r d) s
    (λ _. other refl refl)
    (λ l. other refl (ap (tally_of lines c) (next_entries s r l)))
    (λ _. other refl refl)
    (λ _. other refl refl)
    (λ l. own refl l refl)
    (λ _ _. other refl refl)
    (λ i. head refl refl i.lines refl)
    (λ i. mesh refl i.lines refl)
effect areas s c r =
    by_due (λ d. Effect areas s c r d) s
    (λ _. other refl refl)
    (λ l. other refl (ap (tally_of areas c) (next_entries s r l)))
    (λ _. other refl refl)
    (λ _. other refl refl)
    (λ _. other refl refl)
    (λ _ l. own refl l refl)
    (λ i. head refl refl i.areas refl)
    (λ i. mesh refl i.areas refl)

pub effect_at : (x : Section) (file : List ℕ) (k : ℕ) → Effect x (state_at file k) (counts_at file k) (record_of file (suc k)) (due_of (state_at file k))
effect_at x file k = effect x (state_at file k) (counts_at file k) (record_of file (suc k))

-- ---- what holds of each section

-- before the first record
pub none_yet : (x : Section) → tally_of x no_counts start ≡ no_tally
none_yet lines = refl
none_yet areas = refl

-- no more came than the layer has
pub came_most : (x : Section) (file : List ℕ) (k : ℕ) → came_in x (state_at file k) ≤ own_in x (state_at file k)
came_most lines file k = (opened file k).lines
came_most areas file k = (opened file k).areas

-- where none is left, all came
pub came_all : (x : Section) {s : State} → Idle s → own_in x s ≤ came_in x s
came_all lines i = i.lines
came_all areas i = i.areas

-- a record of it gives it a word, its number
pub own_word : (x : Section) (code letters m : ℕ) (t : List ℕ) (r : ℕ) → words_for x (due_in x code letters m) t r ≡ r ∷ []
own_word lines code letters m t r = refl
own_word areas code letters m t r = refl

pub due_number : (x : Section) (a b c d m n : ℕ) → due_in x a b m ≡ due_in x c d n → m ≡ n
due_number lines a b c d m n e = cc
due_number areas a b c d m n e = cc

-- a row has what its H says
pub head_total : (x : Section) (file : List ℕ) (k : ℕ) → k < records_of file → is_layer (due_of (state_at file k)) ≡ true
    → row_word (table_of file) (counts_at file k).layers (word_of x) ≡ total_in x (record_of file (suc k))
head_total lines file k l h = head_word_lem file k l h (word_of lines) (lit≤ tt)
head_total areas file k l h = head_word_lem file k l h (word_of areas) (lit≤ tt)

row_many : (x : Section) (t : List ℕ) (b : Bases) (i : ℕ) → many_in x (row_layer t b i) ≡ row_word t i (word_of x)
row_many lines t b i = refl
row_many areas t b i = refl

row_first : (x : Section) (t : List ℕ) (b : Bases) (i : ℕ) → first_in x (row_layer t b i) ≡ base_in x b + words_before t (word_of x) i
row_first lines t b i = refl
row_first areas t b i = refl

-- what layer i of a file has of it is what its row says, and stands behind those of the rows before it
module _ (x : Section) (file : List ℕ) (i : ℕ) (l : i ≤ (counts_at file (records_of file)).layers) where
  pub many_is : many_in x (layer_of file i) ≡ row_word (table_of file) i (word_of x)
  many_is = ap (many_in x) (is_row file i l) ∙ row_many x (table_of file) (bases_in file) i

  pub first_is : first_in x (layer_of file i) ≡ base_in x (bases_in file) + words_before (table_of file) (word_of x) i
  first_is = ap (first_in x) (is_row file i l) ∙ row_first x (table_of file) (bases_in file) i

-- it has as many words as came
pub many_words : (x : Section) (file : List ℕ) (k : ℕ) → length (gather (words_for x) file k) ≡ count_in x (counts_at file k)
many_words lines file k = (counted file k).lines
many_words areas file k = (counted file k).areas

-- its word i stands in the table behind the sections before it
pub word_in : (x : Section) (file : List ℕ) (i : ℕ) → i < length (gather (words_for x) file (records_of file))
    → get_or (table_of file) (base_in x (bases_in file) + i) 0 ≡ get_or (gather (words_for x) file (records_of file)) i 0
unfolding table_of bases_of
word_in lines file i l =
    let n = records_of file in
    let ys = gather line_words file n in
    let zs = gather area_words file n in
    rw (← (counted file n).rows) (get_or-append-add (gather row_words file n) (ys ++ zs) i 0 ∙ get_or-append ys zs 0 i l)
word_in areas file i l =
    let n = records_of file in
    let q = counted file n in
    let xs = gather row_words file n in
    let ys = gather line_words file n in
    let zs = gather area_words file n in
    let z : row_length * (counts_at file n).layers + (counts_at file n).lines + i ≡ length xs + (length ys + i) = omega (arith, q.rows, q.lines) in
    rw z (get_or-append-add xs (ys ++ zs) (length ys + i) 0 ∙ get_or-append-add ys zs i 0)

-- what the number m + 1 names, where n words stand from word at on
named_by : (t : List ℕ) (n at m : ℕ) → m < n → cond (leb 1 (suc m) && leb (suc m) n) (get_or t (at + (suc m - 1)) 0) 0 ≡ get_or t (at + m) 0
named_by t n at m h =
    let z : suc m - 1 ≡ m = omega arith in
    rw (le-leb 1 (suc m) (omega arith), le-leb (suc m) n h, z)

pub named : (x : Section) (t : List ℕ) (l : Layer) (m : ℕ) → m < many_in x l → record_in x t l (pos (suc m)) ≡ get_or t (first_in x l + m) 0
unfolding line_of names_line area_of names within
named lines t l m h = named_by t l.lines l.line m h
named areas t l m h = named_by t l.areas l.area m h
