-- Along any layout reading and writing undo each other: the fields stand one after another, so the bytes of one field are no other's, and
-- of one field the laws of `fields` say it. Assumes nothing.
use mathlib.Core.Bool.{Bool, true, false, cond, ◌&&◌, ◌||◌}
use mathlib.Core.List.{List, [], ◌∷◌, ◌++◌, append_assoc}
use mathlib.Core.Logic.{◌⊎◌, inl, inr}
use mathlib.Core.Path.{◌≡◌, refl, sym, ap, ◌∙◌}
use Prim.Native.Nat.{ℕ, zero, suc, ◌+◌, ◌-◌, ◌≤◌}
use native.Mathlib.Nat.{zero-add}
use native.Mathlib.Numerals.{unary_clauses}
use native.Mathlib.Omega.{arith}
use lib.Dec.{leb, eqb}
use lib.IntN.{ℤ, pos, negsuc}
use lib.ListN.{length, get_or, take, drop, replicate, length-append, length-take, length-drop, length-replicate, take-append-drop}
use lib.Seq.{sets, sets-eq, take_at, drop_at, take-add, drop-drop, length-take-le}
use borrow.Author.Tests.{leb-true, le-leb, eq-eqb, eqb-true}
use Rattle.fields.specs.Answer.{number_refusal, value_of, text_refusal}
use Rattle.fields.specs.Number.{number_at, holds}
use Rattle.fields.specs.Place.{is_inside, bytes_at}
use Rattle.fields.specs.Spelling.{spell, Says}
use Rattle.fields.specs.Text.{is_name, is_blanks, text_at}
use Rattle.std.specs.Prelude.{Option, Some, None}
use Rattle.std.specs.List.{list_all}
use Rattle.codes.specs.Code.{code, code_at, code_refusal, code_value, code_mark, code_holds, spell_code, CodeSays}
use Rattle.codes.specs.declared.Code as codes-code
use Rattle.records.specs.Layout.{start_of, width_of, numbers_of, bytes_of, marks_of, total}
use Rattle.records.specs.Reading.{letters_fault, in_layer_five, mark_fits, landed, code_in, fault_of, numbers_in, name_in, marks_in, over}
use Rattle.records.specs.Reading.{Fault, no_fault, fault_at, first_fault}
use Rattle.records.specs.Writing.{second_letter, field_text, field_fits, text_of, no_numbers, no_bytes, fits}
use Rattle.permitted.specs.Permitted.{is_zero}
use Rattle.records.specs.declared.Field.TheVariants.{Letters, Number, Code, Name, Blank}
use Rattle.records.specs.declared.Field.{Field}
use Rattle.fields.proofs.Columns.{spell_length}
use Rattle.fields.proofs.FieldLaws.{number_says, number_read, text_formed, text_read, blank_bytes, spaces_blank}
use Rattle.fields.proofs.Places.{both, inside_fits, inside_bounds, bytes_length}
use Rattle.codes.proofs.CodeLaws.{code_says, code_read, spell_code_length}
use Rattle.records.proofs.Layouts.{tiles, tile}

-- ---- one field: reading what was written; d are the letters that are written

first_of : {A : Type 0} (d : A) (l : List A) → 1 ≤ length l → get_or l 0 d ∷ [] ≡ take 1 l
first_of d [] h = absurd (omega arith)
first_of d (x ∷ l) h = refl

or_right : (x y : Bool) → y ≡ true → (x || y) ≡ true
or_right true y e = refl
or_right false y e = e

-- whichever of the two letters is written second, it is one of the two
right_letters : (a b c : ℕ) (t : Bool) → letters_fault a b c a (cond t c b) ≡ 0
right_letters a b c true = rw (eq-eqb a a refl, or_right (eqb c b) (eqb c c) (eq-eqb c c refl))
right_letters a b c false = rw (eq-eqb a a refl, eq-eqb b b refl)

-- the bytes t behind p stand in the columns behind p
placed : (p t z : List ℕ) (c w : ℕ) → c ≡ length p + 1 → length t ≡ w → (is_inside (p ++ (t ++ z)) c w ≡ true) × (bytes_at (p ++ (t ++ z)) c w ≡ t)
unfolding bytes_at
placed p t z c w e l =
    let n : length (p ++ (t ++ z)) ≡ length p + (length t + length z) = simp length-append in
    let d : drop (c - 1) (p ++ (t ++ z)) ≡ t ++ z = drop_at p (t ++ z) (c - 1) (omega arith) in
    (inside_fits (p ++ (t ++ z)) c w (omega arith) (omega arith), rw d (take_at t z w l))

-- what a code that fits comes to
record CodeFit (five : Bool) (w : ℕ) (ns : List ℤ) (ms : List ℕ) : Type 0 where
  some : 1 ≤ length ns
  marked : 1 ≤ length ms
  held : code_holds w (get_or ns 0 (pos 0)) (get_or ms 0 0) ≡ true
  allowed : mark_fits five (get_or ms 0 0) ≡ true

code_fit : (five : Bool) (c w : ℕ) (ns : List ℤ) (nm ms : List ℕ) → field_fits five (Code c w) ns nm ms ≡ true → CodeFit five w ns ms
unfolding field_fits
code_fit five c w ns nm ms h =
    let a = both (leb 1 (length ns) && leb 1 (length ms)) (code_holds w (get_or ns 0 (pos 0)) (get_or ms 0 0) && mark_fits five (get_or ms 0 0)) h in
    let l = both (leb 1 (length ns)) (leb 1 (length ms)) a.0 in
    let q = both (code_holds w (get_or ns 0 (pos 0)) (get_or ms 0 0)) (mark_fits five (get_or ms 0 0)) a.1 in
    record { some = leb-true _ _ l.0; marked = leb-true _ _ l.1; held = q.0; allowed = q.1 }

-- what fits a field fills it
pub field_length : (d : ℕ) (five : Bool) (f : Field) (ns : List ℤ) (nm ms : List ℕ) → field_fits five f ns nm ms ≡ true
    → length (field_text d f ns nm ms) ≡ width_of f
unfolding field_text field_fits
field_length d five (Letters a b c) ns nm ms h = refl
field_length d five (Number c w) ns nm ms h = spell_length w _
field_length d five (Code c w) ns nm ms h = spell_code_length w _ _ (code_fit five c w ns nm ms h).held
field_length d five (Name c w) ns nm ms h = length-take-le w nm (leb-true _ _ (both (leb w (length nm)) (is_name (take w nm)) h).0)
field_length d five (Blank c w) ns nm ms h = length-replicate w 32

-- what reading finds in a field of the record s that holds what it is given
record Good (f : Field) (ns : List ℤ) (nm ms s : List ℕ) : Type 0 where
  sound : fault_of f s ≡ 0
  numbers : numbers_in f s ≡ take (numbers_of f) ns
  name : name_in f s ≡ take (bytes_of f) nm
  marks : marks_in f s ≡ take (marks_of f) ms

-- a code that a record's columns say is read, where its mark may stand
landed_read : (s : List ℕ) (c w : ℕ) (v : ℤ) (m : ℕ) (five : Bool) → in_layer_five s ≡ five → CodeSays s c w v m → mark_fits five m ≡ true
    → code_in s c w ≡ Some (code v m)
unfolding code_in
landed_read s c w v zero five y h a = rw (code_read s c w v 0 h)
landed_read s c w v (suc m) five y h a = rw (code_read s c w v (suc m) h, y, a)

good : (d : ℕ) (five : Bool) (f : Field) (ns : List ℤ) (nm ms : List ℕ) → field_fits five f ns nm ms ≡ true → (p z : List ℕ)
    → start_of f ≡ length p + 1 → in_layer_five (p ++ (field_text d f ns nm ms ++ z)) ≡ five → Good f ns nm ms (p ++ (field_text d f ns nm ms ++ z))
unfolding second_letter field_text field_fits fault_of numbers_in name_in marks_in
good d five (Letters a b c) ns nm ms h [] z e y = record { sound = right_letters a b c (eqb d 2); numbers = refl; name = refl; marks = refl }
good d five (Letters a b c) ns nm ms h (x ∷ p) z e y = absurd (omega arith)
good d five (Code c w) ns nm ms h p z e y =
    let v = get_or ns 0 (pos 0) in
    let m = get_or ms 0 0 in
    let q = code_fit five c w ns nm ms h in
    let i = placed p (spell_code w v m) z c w e (spell_code_length w v m q.held) in
    let r : code_in (p ++ (spell_code w v m ++ z)) c w ≡ Some (code v m) =
    landed_read _ c w v m five y (record { there = i.0; held = q.held; spelled = i.1 }) q.allowed in
    record { sound = rw r; numbers = rw r (first_of (pos 0) ns q.some); name = refl; marks = rw r (first_of 0 ms q.marked) }
good d five (Number c w) ns nm ms h p z e y =
    let v = get_or ns 0 (pos 0) in
    let q = both (leb 1 (length ns)) (holds w v) h in
    let i = placed p (spell w v) z c w e (spell_length w v) in
    let r : number_at (p ++ (spell w v ++ z)) c w ≡ Some v = number_read _ c w v (record { there = i.0; held = q.1; spelled = i.1 }) in
    record { sound = rw r; numbers = rw r (first_of (pos 0) ns (leb-true _ _ q.0)); name = refl; marks = refl }
good d five (Name c w) ns nm ms h p z e y =
    let i = placed p (take w nm) z c w e (field_length d five (Name c w) ns nm ms h) in
    let r : text_at is_name (p ++ (take w nm ++ z)) c w ≡ true =
    text_read is_name _ c w i.0 (rw i.1 (both (leb w (length nm)) (is_name (take w nm)) h).1) in
    record { sound = rw r; numbers = refl; name = i.1; marks = refl }
good d five (Blank c w) ns nm ms h p z e y =
    let i = placed p (replicate w 32) z c w e (length-replicate w 32) in
    let r : text_at is_blanks (p ++ (replicate w 32 ++ z)) c w ≡ true = text_read is_blanks _ c w i.0 (rw i.1 (spaces_blank w)) in
    record { sound = rw r; numbers = refl; name = refl; marks = refl }

-- ---- any layout: reading what was written

-- what fits fills the layout's columns
pub text_length : (d : ℕ) (five : Bool) (L : List Field) (ns : List ℤ) (nm ms : List ℕ) → fits five L ns nm ms ≡ true
    → length (text_of d L ns nm ms) ≡ total width_of L
unfolding text_of fits total
text_length d five [] ns nm ms h = refl
text_length d five (f ∷ fs) ns nm ms h =
    let q = both (field_fits five f ns nm ms) (fits five fs (drop (numbers_of f) ns) (drop (bytes_of f) nm) (drop (marks_of f) ms)) h in
    rw (length-append, field_length d five f ns nm ms q.0, text_length d five fs (drop (numbers_of f) ns) (drop (bytes_of f) nm) (drop (marks_of f) ms) q.1)

-- the record s has no fault, and reading it finds what L takes of the numbers ns, of the name bytes nm and of the marks ms
pub record Back (L : List Field) (ns : List ℤ) (nm ms s : List ℕ) : Type 0 where
  pub sound : first_fault L s ≡ no_fault
  pub numbers : over numbers_in L s ≡ take (total numbers_of L) ns
  pub name : over name_in L s ≡ take (total bytes_of L) nm
  pub marks : over marks_in L s ≡ take (total marks_of L) ms

one_more : (f : Field) (fs : List Field) (ns : List ℤ) (nm ms s : List ℕ) → Good f ns nm ms s
    → Back fs (drop (numbers_of f) ns) (drop (bytes_of f) nm) (drop (marks_of f) ms) s → Back (f ∷ fs) ns nm ms s
unfolding first_fault over total
one_more f fs ns nm ms s g b = record {
  sound = rw g.sound b.sound;
  numbers = rw (g.numbers, b.numbers) (sym (take-add (numbers_of f) (total numbers_of fs) ns));
  name = rw (g.name, b.name) (sym (take-add (bytes_of f) (total bytes_of fs) nm));
  marks = rw (g.marks, b.marks) (sym (take-add (marks_of f) (total marks_of fs) ms));
}

-- what was written from column c on is read back, whatever stands before and behind it; the record is of layer 5 as `five` says
pub read_written : (d : ℕ) (five : Bool) (L : List Field) (c : ℕ) → tiles c L ≡ true → (ns : List ℤ) (nm ms : List ℕ)
    → fits five L ns nm ms ≡ true → (p z : List ℕ) → length p + 1 ≡ c → in_layer_five (p ++ (text_of d L ns nm ms ++ z)) ≡ five
    → Back L ns nm ms (p ++ (text_of d L ns nm ms ++ z))
unfolding first_fault over total fits text_of
read_written d five [] c t ns nm ms h p z e k = record { sound = refl; numbers = refl; name = refl; marks = refl }
read_written d five (f ∷ fs) c t ns nm ms h p z e k =
    let i = tile c f fs t in
    let ns' = drop (numbers_of f) ns in
    let nm' = drop (bytes_of f) nm in
    let ms' = drop (marks_of f) ms in
    let x = field_text d f ns nm ms in
    let y = text_of d fs (drop (numbers_of f) ns) (drop (bytes_of f) nm) (drop (marks_of f) ms) in
    let q = both (field_fits five f ns nm ms) (fits five fs (drop (numbers_of f) ns) (drop (bytes_of f) nm) (drop (marks_of f) ms)) h in
    let l : length (p ++ field_text d f ns nm ms) ≡ length p + width_of f = rw (length-append, field_length d five f ns nm ms q.0) in
    let a : p ++ (x ++ (y ++ z)) ≡ p ++ ((x ++ y) ++ z) = sym (ap (λ r. p ++ r) (append_assoc x y z)) in
    let b =
    read_written d five fs (c + width_of f) i.rest ns' nm' ms' q.1 (p ++ field_text d f ns nm ms) z (omega arith)
    (ap in_layer_five (append_assoc p x (y ++ z) ∙ a) ∙ k) in
    let g = good d five f ns nm ms q.0 p (y ++ z) (i.start ∙ sym e) (ap in_layer_five a ∙ k) in
    rw append_assoc (one_more f fs ns nm ms (p ++ (x ++ (y ++ z))) g (rw append_assoc at b))

-- ---- one field: writing what was read

-- the letters d are those that stand in the record s, where a field of L asks for letters and they are right
abbrev pub Lettered : ℕ → List Field → List ℕ → Type 0
Lettered d [] s = Unit {0}
Lettered d (Letters a b c ∷ L) s = (letters_fault a b c (get_or s 0 0) (get_or s 1 0) ≡ 0 → second_letter b c d ≡ get_or s 1 0) × Lettered d L s
Lettered d (Number c w ∷ L) s = Lettered d L s
Lettered d (Code c w ∷ L) s = Lettered d L s
Lettered d (Name c w ∷ L) s = Lettered d L s
Lettered d (Blank c w ∷ L) s = Lettered d L s

lettered_first : (d : ℕ) (f : Field) (fs : List Field) (s : List ℕ) → Lettered d (f ∷ fs) s → Lettered d (f ∷ []) s × Lettered d fs s
lettered_first d (Letters a b c) fs s h = ((h.0, tt), h.1)
lettered_first d (Number c w) fs s h = (tt, h)
lettered_first d (Code c w) fs s h = (tt, h)
lettered_first d (Name c w) fs s h = (tt, h)
lettered_first d (Blank c w) fs s h = (tt, h)

-- letters without fault are one of the two that are due
letters_by : (x a : ℕ) (t : Bool) → ◌≡◌ {A = ℕ} (cond (eqb x a && t) 0 3) 0 → (x ≡ a) × (t ≡ true)
letters_by x a t q = by (eqb x a && t) refl q
  where
    by : (u : Bool) → (eqb x a && t) ≡ u → ◌≡◌ {A = ℕ} (cond u 0 3) 0 → (x ≡ a) × (t ≡ true)
    by true e q =
        let p = both (eqb x a) t e in
        (eqb-true _ _ p.0, p.1)
    by false e q = absurd (omega arith)

pub letters : (a b c x y : ℕ) → letters_fault a b c x y ≡ 0 → (x ≡ a) × ((y ≡ b) ⊎ (y ≡ c))
letters a b c x y q =
    let h = letters_by x a (eqb y b || eqb y c) q in
    (h.0, second (eqb y b) refl h.1)
  where
    second : (t : Bool) → eqb y b ≡ t → (t || eqb y c) ≡ true → (y ≡ b) ⊎ (y ≡ c)
    second true e r = inl (eqb-true _ _ e)
    second false e r = inr (eqb-true _ _ r)

two : (s : List ℕ) → 2 ≤ length s → get_or s 0 0 ∷ get_or s 1 0 ∷ [] ≡ take 2 s
two [] l = absurd (omega arith)
two (x ∷ []) l = absurd (omega arith)
two (x ∷ y ∷ s) l = refl

number_by : (s : List ℕ) (c w : ℕ) (r : Option ℤ) → number_at s c w ≡ r → number_refusal r ≡ 0 → Says s c w (value_of r)
number_by s c w (Some v) e q = number_says s c w v e
number_by s c w None e q = absurd (omega arith)

text_by : (r : Bool) → text_refusal r ≡ 0 → r ≡ true
text_by true q = refl
text_by false q = absurd (omega arith)

-- a code without fault says what is read, and its mark may stand
abbrev Landed : List ℕ → ℕ → ℕ → Bool → Option codes-code.Code → Type 0
Landed s c w five r = CodeSays s c w (code_value r) (code_mark r) × (mark_fits five (code_mark r) ≡ true)

code_by : (s : List ℕ) (c w : ℕ) (five : Bool) (r : Option codes-code.Code) → code_at s c w ≡ r → code_refusal (landed five r) ≡ 0
    → Landed s c w five (landed five r)
code_by s c w five (Some k) e q = by five (mark_fits five k.mark) refl q
  where
    by : (five t : Bool) → mark_fits five k.mark ≡ t → code_refusal (cond t (Some k) None) ≡ 0 → Landed s c w five (cond t (Some k) None)
    by five true f q = (code_says s c w k.value k.mark e, f)
    by five false f q = absurd (omega arith)
code_by s c w five None e q = absurd (omega arith)

-- a field without fault, read and written with any numbers ns, name bytes nm and marks ms behind its own
record Kept (d : ℕ) (f : Field) (s : List ℕ) (ns : List ℤ) (nm ms : List ℕ) : Type 0 where
  there : is_inside s (start_of f) (width_of f) ≡ true
  bytes : field_text d f (numbers_in f s ++ ns) (name_in f s ++ nm) (marks_in f s ++ ms) ≡ bytes_at s (start_of f) (width_of f)
  fit : field_fits (in_layer_five s) f (numbers_in f s ++ ns) (name_in f s ++ nm) (marks_in f s ++ ms) ≡ true
  numbers : drop (numbers_of f) (numbers_in f s ++ ns) ≡ ns
  name : drop (bytes_of f) (name_in f s ++ nm) ≡ nm
  marks : drop (marks_of f) (marks_in f s ++ ms) ≡ ms

kept : (d : ℕ) (f : Field) (s : List ℕ) → 2 ≤ length s → fault_of f s ≡ 0 → Lettered d (f ∷ []) s → (ns : List ℤ) (nm ms : List ℕ)
    → Kept d f s ns nm ms
unfolding field_text field_fits code_in fault_of numbers_in name_in marks_in bytes_at
kept d (Letters a b c) s l q y ns nm ms =
    let h = letters a b c (get_or s 0 0) (get_or s 1 0) q in
    record {
      there = inside_fits s 1 2 (omega arith) (omega arith);
      bytes = rw (← h.0, y.0 q) (two s l);
      fit = refl;
      numbers = refl;
      name = refl;
      marks = refl;
    }
kept d (Number c w) s l q y ns nm ms =
    let h = number_by s c w (number_at s c w) refl q in
    record {
      there = h.there;
      bytes = sym h.spelled;
      fit = rw (le-leb 1 (suc (length ns)) (omega arith)) h.held;
      numbers = refl;
      name = refl;
      marks = refl;
    }
kept d (Code c w) s l q y ns nm ms =
    let h = code_by s c w (in_layer_five s) (code_at s c w) refl q in
    record {
      there = h.0.there;
      bytes = sym h.0.spelled;
      fit = rw (le-leb 1 (suc (length ns)) (omega arith), le-leb 1 (suc (length ms)) (omega arith), h.0.held, h.1);
      numbers = refl;
      name = refl;
      marks = refl;
    }
kept d (Name c w) s l q y ns nm ms =
    let h = text_formed is_name s c w (text_by (text_at is_name s c w) q) in
    let n : length (bytes_at s c w) ≡ w = bytes_length s c w h.0 in
    let m : take w (bytes_at s c w ++ nm) ≡ bytes_at s c w = take_at (bytes_at s c w) nm w n in
    let r : w ≤ length (bytes_at s c w ++ nm) = rw length-append (omega arith) in
    record { there = h.0; bytes = m; fit = rw (le-leb w _ r, m) h.1; numbers = refl; name = drop_at (bytes_at s c w) nm w n; marks = refl }
kept d (Blank c w) s l q y ns nm ms =
    let h = text_by (text_at is_blanks s c w) q in
    record { there = (text_formed is_blanks s c w h).0; bytes = sym (blank_bytes s c w h); fit = refl; numbers = refl; name = refl; marks = refl }

-- ---- any layout: writing what was read

-- no first fault: not here, and not behind
no_fault_lem : (x c : ℕ) (q : Fault) → (fault_at x c q).number ≡ 0 → (x ≡ 0) × (q.number ≡ 0)
no_fault_lem zero c q e = (refl, e)
no_fault_lem (suc x) c q e = absurd (omega arith)

-- what L reads of s, with the numbers us, the name bytes bs and the marks ks behind it, is written as it stood, and fits where those are 0
pub record Again (d : ℕ) (L : List Field) (c : ℕ) (s : List ℕ) (us : List ℤ) (bs ks : List ℕ) : Type 0 where
  pub bytes : text_of d L (over numbers_in L s ++ us) (over name_in L s ++ bs) (over marks_in L s ++ ks) ≡ take (total width_of L) (drop (c - 1) s)
  pub fit : fits (in_layer_five s) L (over numbers_in L s ++ us) (over name_in L s ++ bs) (over marks_in L s ++ ks) ≡ no_numbers us && (no_bytes bs && no_bytes ks)

-- what was read without fault from column c on is written as it stood, whatever stands behind it
pub written_read : (L : List Field) (c : ℕ) → tiles c L ≡ true → (s : List ℕ)
    → (first_fault L s).number ≡ 0 → length s ≡ 74 → (d : ℕ) → Lettered d L s → (us : List ℤ) (bs ks : List ℕ) → Again d L c s us bs ks
unfolding first_fault over total text_of fits bytes_at
written_read [] c t s h l d y us bs ks = record { bytes = refl; fit = refl }
written_read (f ∷ fs) c t s h l d y us bs ks =
    let i = tile c f fs t in
    let n = no_fault_lem (fault_of f s) (start_of f) (first_fault fs s) h in
    let v = lettered_first d f fs s y in
    let k = kept d f s (omega arith) n.0 v.0 (over numbers_in fs s ++ us) (over name_in fs s ++ bs) (over marks_in fs s ++ ks) in
    let a = written_read fs (c + width_of f) i.rest s n.1 l d v.1 us bs ks in
    let b = inside_bounds s (start_of f) (width_of f) k.there in
    let e : c + width_of f - 1 ≡ c - 1 + width_of f = omega arith in
    record {
      bytes = simp append_assoc
          (rw (k.bytes, k.numbers, k.name, k.marks, a.bytes, i.start, e, ← drop-drop (width_of f) (c - 1) s)
          (sym (take-add (width_of f) (total width_of fs) (drop (c - 1) s))));
      fit = simp append_assoc (rw (k.fit, k.numbers, k.name, k.marks) a.fit);
    }

-- ---- entries that the kind lacks

-- what a layout leaves over is 0 where all fits
pub fits_rest : (five : Bool) (L : List Field) (ns : List ℤ) (nm ms : List ℕ) → fits five L ns nm ms ≡ true
    → (no_numbers (drop (total numbers_of L) ns) ≡ true) × (no_bytes (drop (total bytes_of L) nm) ≡ true) × (no_bytes (drop (total marks_of L) ms) ≡ true)
unfolding fits total
fits_rest five [] ns nm ms h =
    let q = both (no_numbers ns) (no_bytes nm && no_bytes ms) h in
    let r = both (no_bytes nm) (no_bytes ms) q.1 in
    (q.0, r.0, r.1)
fits_rest five (f ∷ fs) ns nm ms h =
    let q = both (field_fits five f ns nm ms) (fits five fs (drop (numbers_of f) ns) (drop (bytes_of f) nm) (drop (marks_of f) ms)) h in
    let r = fits_rest five fs (drop (numbers_of f) ns) (drop (bytes_of f) nm) (drop (marks_of f) ms) q.1 in (
      rw (← drop-drop (total numbers_of fs) (numbers_of f) ns) r.0,
      rw (← drop-drop (total bytes_of fs) (bytes_of f) nm) r.1,
      rw (← drop-drop (total marks_of fs) (marks_of f) ms) r.2,
    )

-- ---- layer 5, which matters to codes alone

abbrev is_code : Field → Bool
is_code (Letters a b c) = false
is_code (Number c w) = false
is_code (Code c w) = true
is_code (Name c w) = false
is_code (Blank c w) = false

unfoldable pub codes : List Field → Bool
codes [] = false
codes (f ∷ fs) = is_code f || codes fs

module _ (a b : Bool) where
  same_field : (f : Field) (ns : List ℤ) (nm ms : List ℕ) → (is_code f ≡ true → a ≡ b) → field_fits a f ns nm ms ≡ field_fits b f ns nm ms
  unfolding field_fits
  same_field (Letters x y z) ns nm ms e = refl
  same_field (Number c w) ns nm ms e = refl
  same_field (Code c w) ns nm ms e = rw (e refl)
  same_field (Name c w) ns nm ms e = refl
  same_field (Blank c w) ns nm ms e = refl

  -- a layout fits the same, whatever is said of layer 5, unless it has codes
  pub same_fits : (L : List Field) (ns : List ℤ) (nm ms : List ℕ) → (codes L ≡ true → a ≡ b) → fits a L ns nm ms ≡ fits b L ns nm ms
  unfolding fits codes
  same_fits [] ns nm ms e = refl
  same_fits (f ∷ fs) ns nm ms e =
      let p = same_field f ns nm ms (λ h. e (rw h)) in
      let q = same_fits fs (drop (numbers_of f) ns) (drop (bytes_of f) nm) (drop (marks_of f) ms) (λ h. e (or_right (is_code f) (codes fs) h)) in
      rw (p, q)

-- a layout that begins with letters and the layer code: what is written of it is of layer 5 exactly if its first number is 5
pub layer_written : (d : ℕ) (five : Bool) (a b c : ℕ) (fs : List Field) (ns : List ℤ) (nm ms z : List ℕ)
    → fits five (Letters a b c ∷ Number 3 2 ∷ fs) ns nm ms ≡ true
    → number_at (text_of d (Letters a b c ∷ Number 3 2 ∷ fs) ns nm ms ++ z) 3 2 ≡ Some (get_or ns 0 (pos 0))
unfolding fits field_fits text_of field_text
layer_written d five a b c fs ns nm ms z h =
    let v = get_or ns 0 (pos 0) in
    let y = text_of d fs (drop 1 ns) nm ms in
    let q = both (leb 1 (length ns) && holds 2 v) (fits five fs (drop 1 ns) nm ms) h in
    let r = both (leb 1 (length ns)) (holds 2 v) q.0 in
    let i = placed (a ∷ second_letter b c d ∷ []) (spell 2 v) (y ++ z) 3 2 refl (spell_length 2 v) in
    simp append_assoc (number_read _ 3 2 v (record { there = i.0; held = r.1; spelled = i.1 }))

pub zero_number : (z : ℤ) → is_zero z ≡ true → z ≡ pos 0
zero_number (pos n) h = ap pos (eqb-true n 0 h)
zero_number (negsuc n) h =
    let z = eqb-true (suc n) 0 h in
    absurd (omega arith)

-- where p holds of a alone, a list of which it holds throughout is a row of a ..
pub every_same : {A : Type 0} (p : A → Bool) (a : A) → ((x : A) → p x ≡ true → x ≡ a) → (l : List A) → list_all p l ≡ true → l ≡ replicate (length l) a
every_same p a only [] h = refl
every_same p a only (x ∷ l) h =
    let q = both (p x) (list_all p l) h in
    let e = only x q.0 in
    let i = every_same p a only l q.1 in
    cc

-- .. and the other way round
pub every_row : {A : Type 0} (p : A → Bool) (a : A) → p a ≡ true → (n : ℕ) → list_all p (replicate n a) ≡ true
every_row p a h zero = refl
every_row p a h (suc n) = rw h (every_row p a h n)

-- what is left of m equal entries
drop_replicate : {A : Type 0} (a : A) (n m : ℕ) → drop n (replicate m a) ≡ replicate (m - n) a
drop_replicate a zero m = simp unary_clauses
drop_replicate a (suc n) zero =
    let e : 0 - suc n ≡ 0 = omega arith in
    rw e
drop_replicate a (suc n) (suc m) = simp unary_clauses (drop_replicate a n m)

-- the entries vs, stored into m equal ones, stand before what is left of those
pub laid : {A : Type 0} (a : A) (m : ℕ) (vs : List A) → length vs ≤ m → sets (replicate m a) 0 vs ≡ vs ++ replicate (m - length vs) a
laid a m vs h = sets-eq vs (replicate m a) 0 (rw length-replicate (omega arith)) ∙ rw (drop_replicate a, zero-add)

-- the first n entries of l, stored into as many equal ones as l has, are l where its others are such
pub padded : {A : Type 0} (a : A) (m n : ℕ) (l : List A) → length l ≡ m → n ≤ m
    → drop n l ≡ replicate (length (drop n l)) a → sets (replicate m a) 0 (take n l) ≡ l
padded a m n l e h d =
    let k : length (take n l) ≡ n = length-take-le n l (omega arith) in
    let j : length (drop n l) ≡ m - n = rw (length-drop, e) in
    laid a m (take n l) (omega arith) ∙ rw (k, ← j, ← d) (take-append-drop n l)

-- a layout reads no more than it takes
pub over_short : {A : Type 0} (g : Field → List ℕ → List A) (n : Field → ℕ) (s : List ℕ)
    → ((f : Field) → length (g f s) ≤ n f) → (L : List Field) → length (over g L s) ≤ total n L
unfolding over total
over_short g n s h [] = omega arith
over_short g n s h (f ∷ fs) =
    let i = h f in
    let j : length (over g fs s) ≤ total n fs = over_short g n s h fs in
    rw length-append (omega arith)

pub numbers_short : (s : List ℕ) (f : Field) → length (numbers_in f s) ≤ numbers_of f
unfolding numbers_in
numbers_short s (Letters a b c) = omega arith
numbers_short s (Number c w) = omega arith
numbers_short s (Code c w) = omega arith
numbers_short s (Name c w) = omega arith
numbers_short s (Blank c w) = omega arith

pub name_short : (s : List ℕ) (f : Field) → length (name_in f s) ≤ bytes_of f
unfolding name_in bytes_at
name_short s (Letters a b c) = omega arith
name_short s (Number c w) = omega arith
name_short s (Code c w) = omega arith
name_short s (Name c w) = rw length-take (omega arith)
name_short s (Blank c w) = omega arith

pub marks_short : (s : List ℕ) (f : Field) → length (marks_in f s) ≤ marks_of f
unfolding marks_in
marks_short s (Letters a b c) = omega arith
marks_short s (Number c w) = omega arith
marks_short s (Code c w) = omega arith
marks_short s (Name c w) = omega arith
marks_short s (Blank c w) = omega arith
