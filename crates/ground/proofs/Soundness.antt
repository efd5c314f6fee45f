-- EVERY POINT IS STATED: in a file that keeps stage 2 each point of each line is two well formed numbers from 0 to 10000 that stand in its
-- record. Behind each L its coordinate records are due, one after the other, and the file cannot end before the last of them.
-- Assumes nothing.
use mathlib.Core.Bool.{Bool, true, false, not, false≢true}
use mathlib.Core.List.{List, [], ◌∷◌}
use mathlib.Core.Path.{◌≡◌, refl, sym, ◌∙◌, ap}
use Prim.Native.Nat.{ℕ, zero, suc, ◌+◌, ◌-◌, ◌*◌, ◌/◌, ◌%◌, ◌≤◌, ◌<◌}
use native.Mathlib.Numerals.{add-one}
use native.Mathlib.Omega.{arith}
use lib.Dec.{ltb, eqb}
use lib.IntN.{ℤ, pos, negsuc}
use borrow.Author.Tests.{lt-ltb, ltb-true, ltb-false, eqb-true}
use Rattle.fields.specs.Answer.{number_refusal, value_of}
use Rattle.fields.specs.Number.{number_at}
use Rattle.std.specs.Prelude.{Option, Some, None}
use Rattle.records.specs.View.{record_of, number_in}
use Rattle.records.specs.Columns.{layer_lines, layer_areas}
use Rattle.records.specs.Layout.{layout_of}
use Rattle.records.specs.Reading.{head_letters, fault_of}
use Rattle.records.specs.declared.Field.TheVariants as field
use Rattle.verdict.specs.Rules.{Fine, first_broken}
use Rattle.verdict.proofs.Holding.{Holding}
use Rattle.verdict.proofs.Orders.{and_both}
use Rattle.rules.specs.declared.Due.{Due}
use Rattle.rules.specs.declared.Due.TheVariants as due
use Rattle.rules.specs.declared.Due.TheVariants.{Line, Coordinates}
use Rattle.permitted.specs.Permitted.{natural, size, within, of_areas, is_point}
use Rattle.permitted.proofs.Bounds.{within_most}
use Rattle.asks.specs.Asks.{Ask, permitted, at, layer_asks, coordinate_asks}
use Rattle.rules.specs.Checks.{asks_of, asked_of, checks_of}
use Rattle.rules.proofs.Asked.{row_number, number_formed, number_permitted}
use Rattle.asks.proofs.Slots.{row_at}
use Rattle.walk.specs.States.{size_in, size_at, due_of, next_of, state_at, counts_at}
use Rattle.walk.specs.Row.{letters_word}
use Rattle.walk.specs.Stages.{records_of, may_end, stage_two}
use Rattle.walk.specs.Table.{table_of}
use Rattle.walk.specs.Quiet.{Quiet}
use Rattle.walk.proofs.Judging.{two_holds, ended}
use Rattle.walk.proofs.Passing.{quiet_points, passed_due}
use Rattle.layers.specs.Naming.{row_word, line_of}
use Rattle.layers.specs.Passing.{is_layer, bases_in, layer_of}
use Rattle.layers.proofs.Rows.{row_laid}
use Rattle.layers.proofs.Sections.{lines, named}
use Rattle.layers.proofs.Laid.{laid}
use Rattle.measures.specs.Points.{coordinate_in, count_of, point_count, pair_by, point_by}
use Rattle.measures.specs.Sound.{SoundAt, Sound}
use Rattle.loops.specs.Scanning.{SoundTable}

-- ---- a layer's counts

-- an H's number 2 counts its lines
head_lines : (last : ℕ) (t : List ℕ) → Holding (checks_of (due.Layer last) t) → size_at t layer_lines ≤ 9999
unfolding layout_of layer_asks asks_of asked_of size_in
head_lines last t h = within_most 0 9999 _ (number_permitted (due.Layer last) t h 2 refl (within 0 9999) (λ ns. refl))

an_h : (d : Due) → is_layer d ≡ true → (last : ℕ) × (d ≡ due.Layer last)
an_h (due.Mesh last) h = absurd (false≢true h)
an_h (due.Layer last) h = (last, refl)
an_h (due.Node layer last) h = absurd (false≢true h)
an_h (Line layer last letters) h = absurd (false≢true h)
an_h (Coordinates left) h = absurd (false≢true h)
an_h (due.Area layer last) h = absurd (false≢true h)
an_h (due.Loop last count left) h = absurd (false≢true h)

-- RULES 4.2: the lines of an H are at most 9999
lines_limit : (file : List ℕ) → first_broken (stage_two file) ≡ Fine → (i : ℕ) → i < (counts_at file (records_of file)).layers → (layer_of file i).lines ≤ 9999
lines_limit file f i l =
    let q = row_laid file i l in
    let k = q.0 in
    let r = q.1 in
    let d = an_h (due_of (state_at file k)) r.due in
    let h : size_at (record_of file (k + 1)) layer_lines ≤ 9999 = head_lines d.0 (record_of file (k + 1)) (two_holds file f k r.within d.1) in
    rw r.lines (rw add-one at h)

-- an H's number 3 counts its areas: 0 under H1
head_areas : (last : ℕ) (t : List ℕ) → Holding (checks_of (due.Layer last) t) → head_letters t ≡ 1 → size_at t layer_areas ≡ 0
unfolding layout_of layer_asks asks_of asked_of size_in of_areas
head_areas last t h e =
    let v = value_of (number_at t 15 5) in
    let p = number_permitted (due.Layer last) t h 3 refl (λ v. of_areas (head_letters t) v (natural v)) (λ ns. refl) in
    eqb-true _ 0 (and_both (natural v) (eqb (size v) 0) (rw e at p)).1

-- RULES 5.10: an unstructured layer has no areas
pub bare_areas : (file : List ℕ) → first_broken (stage_two file) ≡ Fine → (i : ℕ) → i < (counts_at file (records_of file)).layers
    → row_word (table_of file) i letters_word ≡ 1 → (layer_of file i).areas ≡ 0
bare_areas file f i l e =
    let q = row_laid file i l in
    let k = q.0 in
    let r = q.1 in
    let d = an_h (due_of (state_at file k)) r.due in
    r.areas ∙ head_areas d.0 (record_of file (suc k)) (rw add-one at (two_holds file f k r.within d.1)) (sym r.letters ∙ e)

-- ---- a coordinate

-- what the field at column c answers is well formed and permitted
sound_by : (t : List ℕ) (c : ℕ) (r : Option ℤ) → number_at t c 5 ≡ r → not (eqb (number_refusal r) 5) ≡ true
    → within 0 10000 (value_of r) ≡ true → SoundAt t c (coordinate_in t c)
unfolding within coordinate_in
sound_by t c (Some (pos n)) e f h = record { value = n; permitted = within_most 0 10000 (pos n) h; said = e; is = rw e }
sound_by t c (Some (negsuc n)) e f h = absurd (false≢true h)
sound_by t c None e f h = absurd (false≢true f)

-- number j of a coordinate record
point_sound : (left : ℕ) (t : List ℕ) → Holding (checks_of (Coordinates left) t) → (c j : ℕ) → c ≡ 1 + 5 * j → j < 14 → j / 2 < left
    → SoundAt t c (coordinate_in t c)
unfolding layout_of fault_of is_point asked_of asks_of coordinate_asks
point_sound left t h c j e l m =
    let f = row_number 1 5 14 (field.Blank 71 2 ∷ []) j l in
    let asks : List ℤ → ℕ → List Ask = λ ns k. permitted (is_point (ltb (k / 2) left) (at ns k)) ∷ [] in
    let p = number_permitted (Coordinates left) t h j f (is_point (ltb (j / 2) left)) (λ ns. row_at (asks ns) 14 j [] l) in
    rw e (sound_by t (1 + 5 * j) (number_at t (1 + 5 * j) 5) refl (number_formed (Coordinates left) t h j f) (rw (lt-ltb (j / 2) left m) at p))

-- ---- the points of a line

-- a line counts no more points than the walk does
count_most : (v : ℤ) → count_of v ≤ size v
count_most (pos n) = omega arith
count_most (negsuc n) = omega arith

-- behind the first k records there are points left
module _ (file : List ℕ) (h : first_broken (stage_two file) ≡ Fine) (k : ℕ) (l : k ≤ records_of file) where
  points_quiet : (q : ℕ) → 7 * q < (state_at file k).line.points → Quiet (state_at file k) (q + 1)
  points_quiet q m = quiet_points (state_at file k) (q + 1) (omega arith) (omega arith)

  points_due : (q : ℕ) → 7 * q < (state_at file k).line.points → (j : ℕ) → j ≤ q
      → due_of (state_at file (k + j)) ≡ Coordinates ((state_at file k).line.points - 7 * j)
  points_due q m j i = passed_due file k refl (points_quiet q m) j (omega arith) ∙ rw (lt-ltb 0 (state_at file k).line.points (omega arith))

  -- their records are there
  points_there : (q : ℕ) → 7 * q < (state_at file k).line.points → k + q < records_of file
  points_there q m = by (ltb (k + q) (records_of file)) refl
    where
      by : (b : Bool) → ltb (k + q) (records_of file) ≡ b → k + q < records_of file
      by true e = ltb-true _ _ e
      by false e =
          let g : records_of file ≤ k + q = ltb-false _ _ e in
          let n : k + (records_of file - k) ≡ records_of file = omega arith in
          absurd (false≢true (sym (ap may_end (points_due q m (records_of file - k) (omega arith))) ∙ rw n (ended file h)))

  -- what stands at place j of the record of point i, counted from 0
  place_sound : (i j c : ℕ) → i < (state_at file k).line.points → c ≡ 1 + 5 * j → j / 2 ≡ i % 7 → j < 14
      → SoundAt (record_of file (k + 1 + i / 7)) c (coordinate_in (record_of file (k + 1 + i / 7)) c)
  place_sound i j c a e f g =
      let q = i / 7 in
      let z : k + 1 + q ≡ k + q + 1 = omega arith in
      rw z
      (point_sound ((state_at file k).line.points - 7 * q) (record_of file (k + q + 1))
      (two_holds file h (k + q) (points_there q (omega arith)) (points_due q (omega arith) q (omega arith)))
      c j e g (omega arith))

-- the line whose L is record k + 1
line_sound : (file : List ℕ) → first_broken (stage_two file) ≡ Fine → (k : ℕ) → k < records_of file
    → {layer m letters : ℕ} → due_of (state_at file k) ≡ Line layer m letters → Sound file (suc k)
unfolding state_at next_of point_count number_in size_in pair_by point_by
line_sound file h k l e =
    let few = count_most (value_of (number_at (record_of file (suc k)) 50 6)) in
    let place = place_sound file h (suc k) (omega arith) in
    record {
      east = λ i a. place i (2 * (i % 7)) (1 + 10 * (i % 7)) (rw e (omega arith)) (omega arith) (omega arith) (omega arith);
      north = λ i a. place i (2 * (i % 7) + 1) (6 + 10 * (i % 7)) (rw e (omega arith)) (omega arith) (omega arith) (omega arith);
    }

-- ---- the file

pub table_sound : (file : List ℕ) → first_broken (stage_two file) ≡ Fine → SoundTable file (table_of file) (bases_in file)
table_sound file h = record {
  layers = λ i l. record {
    few = lines_limit file h i l;
    sound = λ m a.
        let p = laid lines file (ended file h) i m l a in
        let e = sym (named lines (table_of file) (layer_of file i) m a) ∙ p.1.word in
        rw e (line_sound file h p.0 p.1.within p.1.due);
  };
}

-- line n of layer i
pub points_stated : (file : List ℕ) → first_broken (stage_two file) ≡ Fine → (i n : ℕ) → i < (counts_at file (records_of file)).layers
    → 1 ≤ n → n ≤ (layer_of file i).lines → Sound file (line_of (table_of file) (layer_of file i) (pos n))
points_stated file h i zero l a b = absurd (omega arith)
points_stated file h i (suc n) l a b = rw (named lines (table_of file) (layer_of file i) n b) (((table_sound file h).layers i l).sound n b)
