-- Reading along a layout, one field at a time: what the loop of `read_fields` keeps, over any layout. Assumes nothing.
use mathlib.Core.Bool.{Bool, true, false}
use mathlib.Core.List.{List, [], ◌++◌, append_assoc}
use mathlib.Core.Path.{◌≡◌, refl, sym, ◌∙◌}
use Prim.Native.Nat.{ℕ, zero, suc, ◌+◌, ◌-◌, ◌≤◌}
use native.Mathlib.Omega.{arith}
use lib.IntN.{ℤ}
use lib.ListN.{length, get_or, take, drop, set, drop_of_length-le, length-drop}
use lib.Seq.{sets, sets-eq, drop-drop, length-take-le}
use Rattle.fields.specs.Number.{number_at}
use Rattle.fields.specs.Place.{is_inside}
use Rattle.fields.specs.Text.{is_blanks, is_name, text_at}
use Rattle.codes.specs.declared.Code as codes
use Rattle.std.specs.Prelude.{Option, Some, None, Ok}
use borrow.Rule.Slice.PartMut.{put_mid}
use Rattle.records.specs.Layout.{layout_of, start_of, numbers_of, bytes_of, marks_of}
use Rattle.records.specs.Reading.{letters_right, letters_in, code_in, fault_of, numbers_in, name_in, marks_in, over, Fault, no_fault}
use Rattle.records.specs.Reading.{fault_at, first_fault, zeros, no_name, unmarked, refused_at, fields_of}
use Rattle.records.specs.declared.Field.TheVariants.{Letters, Number, Code, Name, Blank}
use Rattle.records.specs.declared.Field.{Field}
use Rattle.records.specs.declared.Kind.{Kind}
use Rattle.fields.proofs.FieldLaws.{text_formed}
use Rattle.fields.proofs.Places.{part_is, bytes_length, inside_bounds}
use Rattle.records.proofs.Stores.{sets_append}
use Rattle.records.proofs.Layouts.{Stands, Ahead, ahead, Room, room_ahead, next_ahead}

-- ---- a name's bytes: the part of s that the code cuts out, and its copy

part_length : (s : List ℕ) (c w : ℕ) → c - 1 + w ≤ length s → length (take (c - 1 + w - (c - 1)) (drop (c - 1) s)) ≡ w
part_length s c w h =
    let e : c - 1 + w - (c - 1) ≡ w = omega arith in
    rw e (length-take-le w (drop (c - 1) s) (rw length-drop (omega arith)))

pub sets_part : (l : List ℕ) (m e : ℕ) (p : List ℕ) → m ≤ e → e ≤ length l → length p ≡ e - m → put_mid m (e - m) l p ≡ sets l m p
sets_part l m e p h k n =
    let i : m + length p ≤ length l = omega arith in
    sym (sets-eq p l m i ∙ rw (append_assoc, n, drop-drop))

-- ---- one field

numbers_many : (f : Field) (s : List ℕ) → length (numbers_in f s) ≡ numbers_of f
unfolding numbers_in
numbers_many (Letters a b c) s = refl
numbers_many (Number c w) s = refl
numbers_many (Code c w) s = refl
numbers_many (Name c w) s = refl
numbers_many (Blank c w) s = refl

marks_many : (f : Field) (s : List ℕ) → length (marks_in f s) ≡ marks_of f
unfolding marks_in
marks_many (Letters a b c) s = refl
marks_many (Number c w) s = refl
marks_many (Code c w) s = refl
marks_many (Name c w) s = refl
marks_many (Blank c w) s = refl

-- ---- what the loop keeps: what is left gives the answer of the whole

pub record Going (L : List Field) (s : List ℕ) (ns : List ℤ) (nm ms : List ℕ) (n m q j : ℕ) : Type 0 where
  pub left : Ahead L n m q j
  pub fault : first_fault L s ≡ first_fault (drop j L) s
  pub values : sets ns n (over numbers_in (drop j L) s) ≡ sets zeros 0 (over numbers_in L s)
  pub text : sets nm m (over name_in (drop j L) s) ≡ sets no_name 0 (over name_in L s)
  pub marks : sets ms q (over marks_in (drop j L) s) ≡ sets unmarked 0 (over marks_in L s)

pub start : (k : Kind) (s : List ℕ) → Going (layout_of k) s zeros no_name unmarked 0 0 0 0
start k s = record {
  left = ahead k;
  fault = refl;
  values = refl;
  text = refl;
  marks = refl;
}

module _ {L : List Field} {s : List ℕ} {ns : List ℤ} {nm ms : List ℕ} {n m q j : ℕ} (g : Going L s ns nm ms n m q j) where
  module _ (f : Field) (e : Stands L j f) where
    pub room : Room L f n m q j
    room = room_ahead L j f e g.left

    over_step : {A : Type 0} (h : Field → List ℕ → List A) → over h (drop j L) s ≡ h f s ++ over h (drop (j + 1) L) s
    unfolding over
    over_step h = rw (e)

    -- a well-formed field: the loop goes on behind it
    pub next : (n' m' q' : ℕ) → n' ≡ n + numbers_of f → m' ≡ m + bytes_of f → q' ≡ q + marks_of f → length (name_in f s) ≡ bytes_of f → fault_of f s ≡ 0
        → Going L s (sets ns n (numbers_in f s)) (sets nm m (name_in f s)) (sets ms q (marks_in f s)) n' m' q' (j + 1)
    unfolding first_fault
    next n' m' q' x y z l w = record {
      left = next_ahead L j f e g.left n' m' q' x y z;
      fault = g.fault ∙ rw (e, w);
      values = rw (x, ← numbers_many f s, ← sets_append ns n (numbers_in f s) (over numbers_in (drop (j + 1) L) s), ← over_step numbers_in) g.values;
      text = rw (y, ← l, ← sets_append nm m (name_in f s) (over name_in (drop (j + 1) L) s), ← over_step name_in) g.text;
      marks = rw (z, ← marks_many f s, ← sets_append ms q (marks_in f s) (over marks_in (drop (j + 1) L) s), ← over_step marks_in) g.marks;
    }

  -- no field is left
  all_read : length L ≤ j
      → (first_fault L s ≡ no_fault) × (ns ≡ sets zeros 0 (over numbers_in L s)) × (nm ≡ sets no_name 0 (over name_in L s))
      × (ms ≡ sets unmarked 0 (over marks_in L s))
  unfolding first_fault over
  all_read e =
      let d : drop j L ≡ [] = drop_of_length-le L e in
      (g.fault ∙ rw d, rw d at g.values, rw d at g.text, rw d at g.marks)

-- ---- the answers, by the sort of the field

bad : (k : Kind) (s : List ℕ) (x c : ℕ) (p : Fault) → first_fault (layout_of k) s ≡ fault_at x c p → (x ≡ 0 → ⊥) → refused_at k x c ≡ fields_of k s
unfolding fields_of
bad k s zero c p e h = absurd (h refl)
bad k s (suc x) c p e h = rw e

module _ (k : Kind) {s : List ℕ} {ns : List ℤ} {nm ms : List ℕ} {n m i j : ℕ} (g : Going (layout_of k) s ns nm ms n m i j) where
  refuse : (f : Field) → Stands (layout_of k) j f → (x : ℕ) → fault_of f s ≡ x → (x ≡ 0 → ⊥) → refused_at k x (start_of f) ≡ fields_of k s
  unfolding first_fault
  refuse f e x q h = bad k s x (start_of f) (first_fault (drop (j + 1) (layout_of k)) s) (g.fault ∙ rw (e, q)) h

  -- the layout's end
  pub accept : length (layout_of k) ≤ j → {l : ℕ} → l ≡ letters_in k s
      → Ok (record { kind = k; numbers = ns; name = nm; marks = ms; letters = l }) ≡ fields_of k s
  unfolding fields_of
  accept e y =
      let d = all_read g e in
      rw (d.0, d.1, d.2, d.3, y)

  module _ (a b c : ℕ) (e : Stands (layout_of k) j (Letters a b c)) {r : Bool} (q : r ≡ letters_right a b c (get_or s 0 0) (get_or s 1 0)) where
    pub letters_refused : r ≡ false → refused_at k 3 1 ≡ fields_of k s
    unfolding fault_of
    letters_refused z = refuse (Letters a b c) e 3 (rw (← q, z)) (λ x. omega arith)

    pub letters_next : r ≡ true → Going (layout_of k) s ns nm ms n m i (j + 1)
    unfolding fault_of numbers_in name_in marks_in
    letters_next z = next g (Letters a b c) e n m i (omega arith) (omega arith) (omega arith) refl (rw (← q, z))

  module _ (c w : ℕ) (e : Stands (layout_of k) j (Number c w)) {r : Option ℤ} (q : r ≡ number_at s c w) where
    pub number_refused : r ≡ None → refused_at k 5 c ≡ fields_of k s
    unfolding fault_of
    number_refused z = refuse (Number c w) e 5 (rw (← q, z)) (λ x. omega arith)

    pub number_next : (v : ℤ) → r ≡ Some v → Going (layout_of k) s (set ns n v) nm ms (n + 1) m i (j + 1)
    unfolding fault_of numbers_in name_in marks_in
    number_next v z = rw (← q, z) at (next g (Number c w) e (n + 1) m i refl (omega arith) (omega arith) refl (rw (← q, z)))

  module _ (c w : ℕ) (e : Stands (layout_of k) j (Code c w)) {r : Option codes.Code} (q : r ≡ code_in s c w) where
    pub code_refused : r ≡ None → refused_at k 5 c ≡ fields_of k s
    unfolding fault_of
    code_refused z = refuse (Code c w) e 5 (rw (← q, z)) (λ x. omega arith)

    pub code_next : (x : codes.Code) → r ≡ Some x → Going (layout_of k) s (set ns n x.value) nm (set ms i x.mark) (n + 1) m (i + 1) (j + 1)
    unfolding fault_of numbers_in name_in marks_in
    code_next x z = rw (← q, z) at (next g (Code c w) e (n + 1) m (i + 1) refl (omega arith) refl refl (rw (← q, z)))

  module _ (c w : ℕ) (e : Stands (layout_of k) j (Name c w)) {r : Bool} (q : r ≡ text_at is_name s c w) where
    pub name_refused : r ≡ false → refused_at k 5 c ≡ fields_of k s
    unfolding fault_of
    name_refused z = refuse (Name c w) e 5 (rw (← q, z)) (λ x. omega arith)

    name_inside : r ≡ true → is_inside s c w ≡ true
    name_inside z = (text_formed is_name s c w (sym q ∙ z)).0

    -- a well-formed name lies inside
    pub name_bounds : r ≡ true → (1 ≤ c) × (c - 1 + w ≤ length s)
    name_bounds z = inside_bounds s c w (name_inside z)

    name_stored : r ≡ true → Going (layout_of k) s ns (sets nm m (take (c - 1 + w - (c - 1)) (drop (c - 1) s))) ms n (m + w) i (j + 1)
    unfolding fault_of numbers_in name_in marks_in
    name_stored z =
        rw (part_is s c w)
        (next g (Name c w) e n (m + w) i (omega arith) refl (omega arith) (bytes_length s c w (name_inside z)) (rw (← q, z)))

    pub name_next : r ≡ true → length nm ≡ 40
        → Going (layout_of k) s ns (put_mid m (m + w - m) nm (take (c - 1 + w - (c - 1)) (drop (c - 1) s))) ms n (m + w) i (j + 1)
    name_next z h =
        let p : length (take (c - 1 + w - (c - 1)) (drop (c - 1) s)) ≡ w = part_length s c w (name_bounds z).1 in
        rw (sets_part nm m (m + w) (take (c - 1 + w - (c - 1)) (drop (c - 1) s)) (omega arith) (omega (arith, room g (Name c w) e)) (omega arith))
        (name_stored z)

  module _ (c w : ℕ) (e : Stands (layout_of k) j (Blank c w)) {r : Bool} (q : r ≡ text_at is_blanks s c w) where
    pub blank_refused : r ≡ false → refused_at k 5 c ≡ fields_of k s
    unfolding fault_of
    blank_refused z = refuse (Blank c w) e 5 (rw (← q, z)) (λ x. omega arith)

    pub blank_next : r ≡ true → Going (layout_of k) s ns nm ms n m i (j + 1)
    unfolding fault_of numbers_in name_in marks_in
    blank_next z = next g (Blank c w) e n m i (omega arith) (omega arith) (omega arith) refl (rw (← q, z))
