-- THE LAWS OF RECORDS, over all kinds at once. docs/PROMISES.md leads here. Assumes nothing.
use mathlib.Core.Bool.{Bool, true, false, cond, ◌&&◌, ◌||◌, not, false≢true}
use mathlib.Core.List.{List, [], ◌∷◌, ◌++◌}
use mathlib.Core.Logic.{◌⊎◌, inl, inr, ⊎_elim}
use mathlib.Core.Path.{◌≡◌, refl, sym, ap, ◌∙◌}
use Prim.Native.Nat.{ℕ, zero, suc, ◌+◌, ◌-◌, ◌≤◌}
use native.Mathlib.Omega.{arith}
use lib.Dec.{eqb}
use lib.IntN.{ℤ, pos}
use lib.ListN.{length, get_or, take, drop, replicate, length-append, take-append-drop, drop_of_length-le}
use lib.Seq.{length-sets, get_or_at, get_or-append-add, drop-cons}
use borrow.Author.Tests.{eq-eqb, eqb-true}
use Rattle.records.specs.Layout.{layout_of, start_of, numbers_of, bytes_of, marks_of, total}
use Rattle.records.specs.Reading.{letters_fault, head_letters, letters_in, in_layer_five, numbers_in, name_in, marks_in, over, first_fault}
use Rattle.records.specs.Reading.{zeros, no_name, unmarked}
use Rattle.records.specs.Reading.{Fault, code_in, fault_of, fault_at, refused_at, zeroed, value_told, value_in, fields_by, fields_of, reading_of}
use Rattle.records.specs.Writing.{second_letter, field_text, text_of, fits, record_bytes, of_layer_five, fields_fit, letters_fit, fits_all}
use Rattle.permitted.specs.Permitted.{is_zero, is}
use Rattle.records.specs.declared.Kind.{Kind}
use Rattle.records.specs.declared.Kind.TheVariants.{Mesh, Layer, Node, Line, Coordinates, Area, Loop}
use Rattle.fields.specs.Answer.{value_of, number_refusal, text_refusal}
use Rattle.fields.specs.Number.{number_at}
use Rattle.fields.specs.Text.{is_name, is_blanks, text_at}
use Rattle.std.specs.Prelude.{Option, Some, None, Result, Ok, Err}
use Rattle.codes.specs.Code.{code_refusal}
use Rattle.codes.specs.declared.Code as codes-code
use Rattle.records.specs.declared.Field.{Field}
use Rattle.records.specs.declared.Field.TheVariants.{Letters, Number, Code, Name, Blank}
use Rattle.records.specs.declared.Misread.{Misread}
use Rattle.records.specs.declared.Record.{Record}
use Rattle.fields.proofs.Places.{both}
use Rattle.records.proofs.Layouts.{tiled, tiles_width, fitting}
use Rattle.records.proofs.RoundTrips.{Lettered, letters, text_length, read_written, written_read, fits_rest, zero_number}
use Rattle.records.proofs.RoundTrips.{every_same, every_row, laid, padded, over_short, numbers_short, name_short, marks_short}
use Rattle.records.proofs.RoundTrips.{codes, same_fits, layer_written}

-- a record's value has all its entries
pub record Sized (r : Record) : Type 0 where
  pub numbers : length r.numbers ≡ 16
  pub name : length r.name ≡ 40
  pub marks : length r.marks ≡ 2

-- the answer by its tests and by the number and the column of the first fault
abbrev Answer : Type 0
Answer = Result Record Misread

abbrev answer : Kind → List ℕ → Bool → Bool → Bool → ℕ → ℕ → Answer
answer k s t u v n c = cond t (cond u (cond v (fields_by k s n c) (refused_at k 2 74)) (refused_at k 2 73)) (refused_at k 1 1)

-- a value is no refusal
either : {m : Misread} {r : Record} → ◌≡◌ {A = Answer} (Err m) (Ok r) → ⊥
either e = cc

-- what fits is 72 columns
pub columns_length : (d : ℕ) (five : Bool) (k : Kind) (ns : List ℤ) (nm ms : List ℕ) → fits five (layout_of k) ns nm ms ≡ true
    → length (text_of d (layout_of k) ns nm ms) ≡ 72
columns_length d five k ns nm ms h = text_length d five (layout_of k) ns nm ms h ∙ tiles_width (layout_of k) 1 (tiled k)

-- ---- layer 5: a kind that has codes has its layer code in columns 3-4, and it is the first of its numbers

-- what is written is of layer 5 exactly if the value is
written_layer : (d : ℕ) (five : Bool) (k : Kind) (ns : List ℤ) (nm ms z : List ℕ) → fits five (layout_of k) ns nm ms ≡ true
    → codes (layout_of k) ≡ true → in_layer_five (text_of d (layout_of k) ns nm ms ++ z) ≡ of_layer_five ns
unfolding layout_of codes in_layer_five
written_layer d five Mesh ns nm ms z h e = absurd (false≢true e)
written_layer d five Layer ns nm ms z h e = absurd (false≢true e)
written_layer d five Node ns nm ms z h e = absurd (false≢true e)
written_layer d five Line ns nm ms z h e = ap (λ r. is 5 (value_of r)) (layer_written d five 76 32 32 _ ns nm ms z h)
written_layer d five Coordinates ns nm ms z h e = absurd (false≢true e)
written_layer d five Area ns nm ms z h e = ap (λ r. is 5 (value_of r)) (layer_written d five 65 32 32 _ ns nm ms z h)
written_layer d five Loop ns nm ms z h e = absurd (false≢true e)

-- what is read is of layer 5 exactly if the bytes are
read_layer : (k : Kind) (s : List ℕ) (us : List ℤ) → codes (layout_of k) ≡ true → of_layer_five (over numbers_in (layout_of k) s ++ us) ≡ in_layer_five s
unfolding layout_of codes in_layer_five over numbers_in
read_layer Mesh s us e = absurd (false≢true e)
read_layer Layer s us e = absurd (false≢true e)
read_layer Node s us e = absurd (false≢true e)
read_layer Line s us e = refl
read_layer Coordinates s us e = absurd (false≢true e)
read_layer Area s us e = refl
read_layer Loop s us e = absurd (false≢true e)

-- ---- the letters

-- those of H2 are written as the last of the two letters, and else the first is; what is read says which it was
head_written : (d : ℕ) → (eqb d 1 || eqb d 2) ≡ true → cond (eqb (second_letter 49 50 d) 49) 1 2 ≡ d
unfolding second_letter
head_written d h = by (eqb d 1) (eqb d 2) refl refl h
  where
    by : (t u : Bool) → eqb d 1 ≡ t → eqb d 2 ≡ u → (t || u) ≡ true → cond (eqb (cond u 50 49) 49) 1 2 ≡ d
    by t true e f h = sym (eqb-true d 2 f)
    by true false e f h = sym (eqb-true d 1 e)
    by false false e f h = absurd (false≢true h)

-- what is written has the letters of the value
written_letters : (d : ℕ) (k : Kind) (ns : List ℤ) (nm ms z : List ℕ) → letters_fit k d ≡ true → letters_in k (text_of d (layout_of k) ns nm ms ++ z) ≡ d
unfolding layout_of text_of field_text head_letters
written_letters d Mesh ns nm ms z h = sym (eqb-true d 0 h)
written_letters d Layer ns nm ms z h = head_written d h
written_letters d Node ns nm ms z h = sym (eqb-true d 0 h)
written_letters d Line ns nm ms z h = sym (eqb-true d 0 h)
written_letters d Coordinates ns nm ms z h = sym (eqb-true d 0 h)
written_letters d Area ns nm ms z h = sym (eqb-true d 0 h)
written_letters d Loop ns nm ms z h = sym (eqb-true d 0 h)

-- what is read has letters that fit, and they are those that stand there
read_letters : (k : Kind) (s : List ℕ) → letters_fit k (letters_in k s) ≡ true
unfolding head_letters
read_letters Mesh s = refl
read_letters Layer s = by (eqb (get_or s 1 0) 49)
  where
    by : (t : Bool) → (eqb (cond t 1 2) 1 || eqb (cond t 1 2) 2) ≡ true
    by true = refl
    by false = refl
read_letters Node s = refl
read_letters Line s = refl
read_letters Coordinates s = refl
read_letters Area s = refl
read_letters Loop s = refl

-- one spelling
one_letter : (a b x y : ℕ) → letters_fault a b b x y ≡ 0 → second_letter b b 0 ≡ y
unfolding second_letter
one_letter a b x y q = ⊎_elim (λ e. sym e) (λ e. sym e) (letters a b b x y q).1

-- H1 and H2
two_letters : (x y : ℕ) → letters_fault 72 49 50 x y ≡ 0 → second_letter 49 50 (cond (eqb y 49) 1 2) ≡ y
unfolding second_letter
two_letters x y q = ⊎_elim (λ e. rw e) (λ e. rw e) (letters 72 49 50 x y q).1

lettered : (k : Kind) (s : List ℕ) → Lettered (letters_in k s) (layout_of k) s
unfolding layout_of head_letters
lettered Mesh s = (one_letter 77 32 (get_or s 0 0) (get_or s 1 0), tt)
lettered Layer s = (two_letters (get_or s 0 0) (get_or s 1 0), tt)
lettered Node s = (one_letter 78 32 (get_or s 0 0) (get_or s 1 0), tt)
lettered Line s = (one_letter 76 32 (get_or s 0 0) (get_or s 1 0), tt)
lettered Coordinates s = tt
lettered Area s = (one_letter 65 32 (get_or s 0 0) (get_or s 1 0), tt)
lettered Loop s = tt

-- ---- written then read

-- of a record's parts
read_back : (k : Kind) (ns : List ℤ) (nm ms : List ℕ) (d : ℕ) → length ns ≡ 16 → length nm ≡ 40 → length ms ≡ 2 → letters_fit k d ≡ true
    → fits (of_layer_five ns) (layout_of k) ns nm ms ≡ true
    → reading_of k (text_of d (layout_of k) ns nm ms ++ (13 ∷ 10 ∷ [])) ≡ Ok (record { kind = k; numbers = ns; name = nm; marks = ms; letters = d })
unfolding reading_of fields_of
read_back k ns nm ms d i j o y g =
    let t = text_of d (layout_of k) ns nm ms in
    let five = in_layer_five (text_of d (layout_of k) ns nm ms ++ (13 ∷ 10 ∷ [])) in
    let h : fits (in_layer_five (text_of d (layout_of k) ns nm ms ++ (13 ∷ 10 ∷ []))) (layout_of k) ns nm ms ≡ true =
    same_fits five (of_layer_five ns) (layout_of k) ns nm ms (written_layer d (of_layer_five ns) k ns nm ms (13 ∷ 10 ∷ []) g) ∙ g in
    let l : length (text_of d (layout_of k) ns nm ms) ≡ 72 = columns_length d five k ns nm ms h in
    let n : length (text_of d (layout_of k) ns nm ms ++ (13 ∷ 10 ∷ [])) ≡ 74 = length-append t (13 ∷ 10 ∷ []) ∙ rw l in
    let r : get_or (text_of d (layout_of k) ns nm ms ++ (13 ∷ 10 ∷ [])) 72 0 ≡ 13 = get_or_at t 13 (10 ∷ []) 0 72 l in
    let m : length (text_of d (layout_of k) ns nm ms) + 1 ≡ 73 = omega arith in
    let f : get_or (text_of d (layout_of k) ns nm ms ++ (13 ∷ 10 ∷ [])) 73 0 ≡ 10 = rw (← m) (get_or-append-add t (13 ∷ 10 ∷ []) 1 0) in
    let b = read_written d five (layout_of k) 1 (tiled k) ns nm ms h [] (13 ∷ 10 ∷ []) refl refl in
    let z = fits_rest five (layout_of k) ns nm ms h in
    let u = padded (pos 0) 16 (total numbers_of (layout_of k)) ns i (fitting k).numbers (every_same is_zero (pos 0) zero_number _ z.0) in
    let v = padded 0 40 (total bytes_of (layout_of k)) nm j (fitting k).names (every_same (λ b. eqb b 0) 0 (λ b e. eqb-true b 0 e) _ z.1) in
    let w = padded 0 2 (total marks_of (layout_of k)) ms o (fitting k).marks (every_same (λ b. eqb b 0) 0 (λ b e. eqb-true b 0 e) _ z.2) in
    rw (eq-eqb _ 74 n, eq-eqb _ 13 r, eq-eqb _ 10 f, b.sound, b.numbers, b.name, b.marks, u, v, w, written_letters d k ns nm ms (13 ∷ 10 ∷ []) y)

-- WRITTEN THEN READ: a value that fits is read back from its bytes
pub written_then_read : (r : Record) → Sized r → fits_all r ≡ true → reading_of r.kind (record_bytes r) ≡ Ok r
unfolding fits_all fields_fit record_bytes
written_then_read r z h =
    let q = both (letters_fit r.kind r.letters) (fields_fit r) h in
    read_back r.kind r.numbers r.name r.marks r.letters z.numbers z.name z.marks q.0 q.1

-- what acceptance says of the bytes
record Accepted (k : Kind) (s : List ℕ) : Type 0 where
  long : length s ≡ 74
  return : get_or s 72 0 ≡ 13
  feed : get_or s 73 0 ≡ 10
  sound : (first_fault (layout_of k) s).number ≡ 0

accepted_by : (k : Kind) (s : List ℕ) (t u v : Bool) (n c : ℕ) {r : Record} → answer k s t u v n c ≡ Ok r
    → (t ≡ true) × (u ≡ true) × (v ≡ true) × (n ≡ 0)
accepted_by k s true true true zero c e = (refl, refl, refl, refl)
accepted_by k s true true true (suc n) c e = absurd (either e)
accepted_by k s true true false n c e = absurd (either e)
accepted_by k s true false v n c e = absurd (either e)
accepted_by k s false u v n c e = absurd (either e)

accepts : (k : Kind) (s : List ℕ) {r : Record} → reading_of k s ≡ Ok r → Accepted k s
unfolding reading_of fields_of
accepts k s e =
    let h =
    accepted_by k s (eqb (length s) 74) (eqb (get_or s 72 0) 13) (eqb (get_or s 73 0) 10)
    (first_fault (layout_of k) s).number (first_fault (layout_of k) s).column e in
    record { long = eqb-true _ _ h.0; return = eqb-true _ _ h.1; feed = eqb-true _ _ h.2; sound = h.3 }

-- what is accepted is the value of the fields
accepted_value : (k : Kind) (s : List ℕ) → Accepted k s → reading_of k s ≡ Ok (value_in k s)
unfolding reading_of fields_of
accepted_value k s a = rw (eq-eqb _ 74 a.long, eq-eqb _ 13 a.return, eq-eqb _ 10 a.feed, a.sound)

value_is : (k : Kind) (s : List ℕ) {r : Record} → reading_of k s ≡ Ok r → r ≡ value_in k s
value_is k s {r} e =
    let q : ◌≡◌ {A = Answer} (Ok r) (Ok (value_in k s)) = sym e ∙ accepted_value k s (accepts k s e) in
    cc

-- a value's entries are put into those of the named kind with all else 0, and a refused reading has these
zeroed_sized : (k : Kind) → Sized (zeroed k)
zeroed_sized k = record { numbers = refl; name = refl; marks = refl }

value_in_sized : (k : Kind) (s : List ℕ) → Sized (value_in k s)
value_in_sized k s = record {
  numbers = length-sets zeros 0 (over numbers_in (layout_of k) s);
  name = length-sets no_name 0 (over name_in (layout_of k) s);
  marks = length-sets unmarked 0 (over marks_in (layout_of k) s);
}

sized_by : (k : Kind) (s : List ℕ) (t u v : Bool) (n c : ℕ) → Sized (value_told (answer k s t u v n c))
sized_by k s true true true zero c = value_in_sized k s
sized_by k s true true true (suc n) c = zeroed_sized k
sized_by k s true true false n c = zeroed_sized k
sized_by k s true false v n c = zeroed_sized k
sized_by k s false u v n c = zeroed_sized k

-- what is read has all its entries, also where it is refused
pub value_sized : (k : Kind) (s : List ℕ) → Sized (value_told (reading_of k s))
unfolding reading_of fields_of
value_sized k s =
    sized_by k s (eqb (length s) 74) (eqb (get_or s 72 0) 13) (eqb (get_or s 73 0) 10)
    (first_fault (layout_of k) s).number (first_fault (layout_of k) s).column

kind_by : (k : Kind) (s : List ℕ) (t u v : Bool) (n c : ℕ) → (value_told (answer k s t u v n c)).kind ≡ k
kind_by k s true true true zero c = refl
kind_by k s true true true (suc n) c = refl
kind_by k s true true false n c = refl
kind_by k s true false v n c = refl
kind_by k s false u v n c = refl

-- it is of the named kind, also where it is refused
pub reading_kind : (k : Kind) (s : List ℕ) → (value_told (reading_of k s)).kind ≡ k
unfolding reading_of fields_of
reading_kind k s =
    kind_by k s (eqb (length s) 74) (eqb (get_or s 72 0) 13) (eqb (get_or s 73 0) 10)
    (first_fault (layout_of k) s).number (first_fault (layout_of k) s).column

-- 72 columns and the two bytes behind them
line_is : (s : List ℕ) → length s ≡ 74 → get_or s 72 0 ≡ 13 → get_or s 73 0 ≡ 10 → take 72 s ++ (13 ∷ 10 ∷ []) ≡ s
line_is s l p q =
    let d : drop 72 s ≡ 13 ∷ 10 ∷ [] = drop-cons s 72 0 (omega arith) ∙ rw (p, drop-cons s 73 0 (omega arith), q, drop_of_length-le s {i = 74} (omega arith)) in
    rw (← d) (take-append-drop 72 s)

-- and that fits and is written as it stood
kept_value : (k : Kind) (s : List ℕ) → Accepted k s → (fits_all (value_in k s) ≡ true) × (record_bytes (value_in k s) ≡ s)
unfolding fits_all fields_fit record_bytes
kept_value k s a =
    let ns = over numbers_in (layout_of k) s in
    let nm = over name_in (layout_of k) s in
    let ks = over marks_in (layout_of k) s in
    let i = over_short numbers_in numbers_of s (numbers_short s) (layout_of k) in
    let j = over_short name_in bytes_of s (name_short s) (layout_of k) in
    let o = over_short marks_in marks_of s (marks_short s) (layout_of k) in
    let r = fitting k in
    let us = replicate (16 - length ns) (pos 0) in
    let w =
    written_read (layout_of k) 1 (tiled k) s a.sound a.long (letters_in k s) (lettered k s) us
    (replicate (40 - length nm) 0) (replicate (2 - length ks) 0) in
    let u = laid (pos 0) 16 (over numbers_in (layout_of k) s) (omega arith) in
    let v = laid 0 40 (over name_in (layout_of k) s) (omega arith) in
    let x = laid 0 2 (over marks_in (layout_of k) s) (omega arith) in (
      rw (read_letters k s, u, v, x) (same_fits _ (in_layer_five s) (layout_of k) _ _ _ (read_layer k s us)
          ∙ rw (w.fit, every_row is_zero (pos 0) refl, every_row (λ b. eqb b 0) 0 refl, every_row (λ b. eqb b 0) 0 refl)),
      rw (u, v, x, w.bytes, tiles_width (layout_of k) 1 (tiled k)) (line_is s a.long a.return a.feed),
    )

-- READ THEN WRITTEN: the value that was read fits, is of the kind that was asked for, and is written as the bytes that were read
pub read_then_written : (k : Kind) (s : List ℕ) (r : Record) → reading_of k s ≡ Ok r → (fits_all r ≡ true) × (record_bytes r ≡ s) × (r.kind ≡ k)
read_then_written k s r e =
    let v = kept_value k s (accepts k s e) in
    rw (value_is k s e) (v.0, v.1, refl)

-- THE ONLY ANSWER: a value of the kind that fits and has these bytes is what is read ..
pub reading_only : (k : Kind) (s : List ℕ) (r : Record) → Sized r → r.kind ≡ k → fits_all r ≡ true → record_bytes r ≡ s → reading_of k s ≡ Ok r
reading_only k s r z q h e = rw (← q, ← e) (written_then_read r z h)

-- .. so bytes that are refused are no value's
pub reading_refused : (k : Kind) (s : List ℕ) (r : Record) → Sized r → r.kind ≡ k → fits_all r ≡ true → record_bytes r ≡ s
    → (m : Misread) → reading_of k s ≡ Err m → ⊥
reading_refused k s r z q h e m n = either (sym n ∙ reading_only k s r z q h e)

-- ---- what a field gives: nothing, or the one refusal that it has, 3 of letters and 5 of any other

abbrev pub refusal_of : Field → ℕ
refusal_of (Letters a b c) = 3
refusal_of (Number c w) = 5
refusal_of (Code c w) = 5
refusal_of (Name c w) = 5
refusal_of (Blank c w) = 5

letters_one : (t : Bool) → (◌≡◌ {A = ℕ} (cond t 0 3) 0) ⊎ (◌≡◌ {A = ℕ} (cond t 0 3) 3)
letters_one true = inl refl
letters_one false = inr refl

number_one : (r : Option ℤ) → (number_refusal r ≡ 0) ⊎ (number_refusal r ≡ 5)
number_one (Some v) = inl refl
number_one None = inr refl

code_one : (r : Option codes-code.Code) → (code_refusal r ≡ 0) ⊎ (code_refusal r ≡ 5)
code_one (Some k) = inl refl
code_one None = inr refl

text_one : (r : Bool) → (text_refusal r ≡ 0) ⊎ (text_refusal r ≡ 5)
text_one true = inl refl
text_one false = inr refl

fault_one : (f : Field) (s : List ℕ) → (fault_of f s ≡ 0) ⊎ (fault_of f s ≡ refusal_of f)
unfolding fault_of
fault_one (Letters a b c) s = letters_one (eqb (get_or s 0 0) a && (eqb (get_or s 1 0) b || eqb (get_or s 1 0) c))
fault_one (Number c w) s = number_one (number_at s c w)
fault_one (Code c w) s = code_one (code_in s c w)
fault_one (Name c w) s = text_one (text_at is_name s c w)
fault_one (Blank c w) s = text_one (text_at is_blanks s c w)

-- where it does not give its own refusal, it gives none
pub fault_free : (f : Field) (s : List ℕ) → not (eqb (fault_of f s) (refusal_of f)) ≡ true → fault_of f s ≡ 0
fault_free f s h = ⊎_elim (λ e. e) (λ e. absurd (false≢true (rw (eq-eqb (fault_of f s) (refusal_of f) e) at h))) (fault_one f s)

-- ---- the numbers of refused readings

refusal_small : (f : Field) → refusal_of f ≤ 5
refusal_small (Letters a b c) = omega arith
refusal_small (Number c w) = omega arith
refusal_small (Code c w) = omega arith
refusal_small (Name c w) = omega arith
refusal_small (Blank c w) = omega arith

field_not : (f : Field) (s : List ℕ) → fault_of f s ≡ 7 → ⊥
field_not f s e = ⊎_elim (λ z. omega arith) (λ z. omega (arith, refusal_small f)) (fault_one f s)

first_not : (n c : ℕ) (p : Fault) → (n ≡ 7 → ⊥) → (p.number ≡ 7 → ⊥) → (fault_at n c p).number ≡ 7 → ⊥
first_not zero c p h g e = g e
first_not (suc n) c p h g e = h e

fault_not : (L : List Field) (s : List ℕ) → (first_fault L s).number ≡ 7 → ⊥
unfolding first_fault
fault_not [] s e = omega arith
fault_not (f ∷ fs) s e = first_not (fault_of f s) (start_of f) (first_fault fs s) (field_not f s) (fault_not fs s) e

number_is : {k : Kind} {n c : ℕ} {m : Misread} → refused_at k n c ≡ Err m → n ≡ m.number
number_is {k} {n} {c} {m} e =
    let q : ◌≡◌ {A = Misread} (record { number = n; place = 1; column = c; value = zeroed k }) m = cc in
    ap (λ (y : Misread). y.number) q

answer_not : (x : ℕ) → (1 ≡ x → ⊥) → (2 ≡ x → ⊥) → (k : Kind) (s : List ℕ) (t u v : Bool) (n c : ℕ) → (1 ≤ n → n ≡ x → ⊥)
    → {m : Misread} → answer k s t u v n c ≡ Err m → m.number ≡ x → ⊥
answer_not x p q k s true true true zero c h e z = either (sym e)
answer_not x p q k s true true true (suc n) c h e z = h (omega arith) (number_is e ∙ z)
answer_not x p q k s true true false n c h e z = q (number_is e ∙ z)
answer_not x p q k s true false v n c h e z = q (number_is e ∙ z)
answer_not x p q k s false u v n c h e z = p (number_is e ∙ z)

module _ (k : Kind) (s : List ℕ) {m : Misread} (e : reading_of k s ≡ Err m) where
  not_by : (x : ℕ) → (1 ≡ x → ⊥) → (2 ≡ x → ⊥) → (1 ≤ (first_fault (layout_of k) s).number → (first_fault (layout_of k) s).number ≡ x → ⊥)
      → m.number ≡ x → ⊥
  unfolding reading_of fields_of
  not_by x p q h z =
      answer_not x p q k s (eqb (length s) 74) (eqb (get_or s 72 0) 13) (eqb (get_or s 73 0) 10)
      (first_fault (layout_of k) s).number (first_fault (layout_of k) s).column h e z

  -- RULES 6.1: 0 is acceptance's
  pub reading_nonzero : m.number ≡ 0 → ⊥
  reading_nonzero z = not_by 0 (λ w. omega arith) (λ w. omega arith) (λ l w. omega arith) z

  -- RULES 6.2: 7 is never given
  pub reading_seven : m.number ≡ 7 → ⊥
  reading_seven z = not_by 7 (λ w. omega arith) (λ w. omega arith) (λ l w. fault_not (layout_of k) s w) z
