-- Writing along a layout, one field at a time: what the loop of `spell_record` keeps, over any layout. Assumes nothing.
use mathlib.Core.Bool.{Bool, true, false, cond, ◌&&◌, false≢true}
use mathlib.Core.List.{List, [], ◌∷◌, ◌++◌, append_assoc, append-nil}
use mathlib.Core.Path.{◌≡◌, refl, sym, ap, ◌∙◌}
use Prim.Native.Nat.{ℕ, ◌+◌, ◌-◌, ◌≤◌, ◌<◌}
use native.Mathlib.Nat.{add-zero}
use native.Mathlib.Omega.{arith}
use lib.IntN.{ℤ, pos}
use lib.ListN.{length, get_or, take, drop, set, replicate, length-set, length-append, length-drop, drop_of_length-le}
use lib.Seq.{drop-drop, take_at, length-take-le, get_or-drop, set_split, take-suc-set}
use borrow.Author.Tests.{le-leb, lt-leb, eq-eqb, eqb-true}
use Rattle.fields.specs.Answer.{number_fits, name_fits, Writing, Wrote}
use Rattle.fields.specs.Place.{is_inside, put}
use Rattle.fields.specs.Spelling.{spell}
use Rattle.codes.specs.Code.{code_holds, spell_code, code_fits}
use Rattle.std.specs.Prelude.{Result, Ok, Err}
use Rattle.std.proofs.lemmas.List.{take_all}
use Rattle.fields.specs.declared.Unfit.{Unfit}
use Rattle.records.specs.Reading.{mark_fits}
use Rattle.records.specs.Layout.{layout_of, start_of, width_of, numbers_of, bytes_of, marks_of}
use Rattle.records.specs.Writing.{second_letter, field_text, field_fits, text_of, no_numbers, no_bytes, fits, of_layer_five, fields_fit, letters_fit, fits_all}
use Rattle.records.specs.Writing.{record_bytes, spelled, Written}
use Rattle.records.specs.declared.Field.TheVariants.{Letters, Number, Code, Name, Blank}
use Rattle.records.specs.declared.Field.{Field}
use Rattle.records.specs.declared.Kind.{Kind}
use Rattle.records.specs.declared.Record.{Record}
use Rattle.fields.proofs.FieldLaws.{wrote_done, wrote_refused}
use Rattle.fields.proofs.Places.{inside_fits, put_length}
use Rattle.records.proofs.Layouts.{Stands, Ahead, ahead, Room, total_split, room_ahead, next_ahead, tiles, Tile, tile, tiles_end, fitting}
use Rattle.records.proofs.RoundTrips.{field_length}

-- the columns up to `at` are written, and what is left decides and gives the rest; d are the letters
pub record Lines (d : ℕ) (L : List Field) (ns : List ℤ) (nm ms out : List ℕ) (n m q j : ℕ) : Type 0 where
  pub left : Ahead L n m q j
  pub long : length out ≡ 74
  pub many : length ns ≡ 16
  pub wide : length nm ≡ 40
  pub marked : length ms ≡ 2
  pub at : ℕ
  pub tiled : tiles (at + 1) (drop j L) ≡ true
  pub whole : fits (of_layer_five ns) L ns nm ms ≡ fits (of_layer_five ns) (drop j L) (drop n ns) (drop m nm) (drop q ms)
  pub text : take at out ++ text_of d (drop j L) (drop n ns) (drop m nm) (drop q ms) ≡ text_of d L ns nm ms

pub start : (d : ℕ) (k : Kind) (ns : List ℤ) (nm ms out : List ℕ) → length ns ≡ 16 → length nm ≡ 40 → length ms ≡ 2 → length out ≡ 74
    → Lines d (layout_of k) ns nm ms out 0 0 0 0
start d k ns nm ms out l w x o = record {
  left = ahead k;
  long = o;
  many = l;
  wide = w;
  marked = x;
  at = 0;
  tiled = (fitting k).tiled;
  whole = refl;
  text = refl;
}

-- the bytes t behind the first a of a list
put_front : (s t : List ℕ) (c a w : ℕ) → c ≡ a + 1 → length t ≡ w → a + w ≤ length s → take (a + w) (put s c t) ≡ take a s ++ t
unfolding put
put_front s t c a w e l h =
    let d : c - 1 ≡ a = omega arith in
    let k : length (take a s) ≡ a = length-take-le a s (omega arith) in
    let q : length (take a s ++ t) ≡ a + w = length-append (take a s) t ∙ rw (k, l) in
    rw (d, ← append_assoc (take a s) t (drop (a + length t) s)) (take_at (take a s ++ t) (drop (a + length t) s) (a + w) q)

end_column : (a : ℕ) → tiles (a + 1) [] ≡ true → a ≡ 72
unfolding tiles
end_column a h =
    let e : a + 1 ≡ 73 = eqb-true _ _ h in
    omega arith

-- all that stands behind n entries
behind : {A : Type 0} (l : List A) (n : ℕ) → take (length l - n) (drop n l) ≡ drop n l
behind l n = take_all (length l - n) (drop n l) (rw length-drop (omega arith))

-- the type letters
two_put : (s : List ℕ) (a b : ℕ) → length s ≡ 74 → set (set s 0 a) 1 b ≡ put s 1 (a ∷ b ∷ [])
unfolding put
two_put [] a b l = absurd (omega arith)
two_put (x ∷ []) a b l = absurd (omega arith)
two_put (x ∷ y ∷ s) a b l = refl

-- the line end
ended : (s : List ℕ) → length s ≡ 74 → set (set s 72 13) 73 10 ≡ take 72 s ++ (13 ∷ 10 ∷ [])
ended s l =
    let a : 72 < length s = omega arith in
    let b : 73 < length (set s 72 13) = rw length-set (omega arith) in
    let r : 72 < 73 = omega arith in
    let e : take 72 s ++ (13 ∷ []) ≡ take 73 (set s 72 13) = sym (take-suc-set s 72 13 a) in
    set_split (set s 72 13) 73 10 b
    ∙ rw (← e, append_assoc)
    (ap (λ x. take 72 s ++ (13 ∷ 10 ∷ x)) (drop_of_length-le (set s 72 13) {i = 74} (rw length-set (omega arith))))

module _ {d : ℕ} {L : List Field} {ns : List ℤ} {nm ms out : List ℕ} {n m q j : ℕ} (g : Lines d L ns nm ms out n m q j) where
  module _ (f : Field) (e : Stands L j f) where
    pub room : Room L f n m q j
    room = room_ahead L j f e g.left

    here : Tile (g.at + 1) f (drop (j + 1) L)
    here = tile (g.at + 1) f (drop (j + 1) L) (rw (e) at g.tiled)

    width : g.at + width_of f ≤ 72
    width = omega (arith, total_split L j f e width_of, tiles_end (drop j L) (g.at + 1) g.tiled)

    pub inside : is_inside out (start_of f) (width_of f) ≡ true
    inside = inside_fits out (start_of f) (width_of f) (omega (arith, here.start)) (omega (arith, here.start, width, g.long))

    -- a field that fits is written: the loop goes on behind it
    pub next : (n' m' q' : ℕ) → n' ≡ n + numbers_of f → m' ≡ m + bytes_of f → q' ≡ q + marks_of f → (out' : List ℕ)
        → field_fits (of_layer_five ns) f (drop n ns) (drop m nm) (drop q ms) ≡ true
        → out' ≡ put out (start_of f) (field_text d f (drop n ns) (drop m nm) (drop q ms)) → Lines d L ns nm ms out' n' m' q' (j + 1)
    unfolding fits text_of
    next n' m' q' p r x out' y o =
        let t = field_text d f (drop n ns) (drop m nm) (drop q ms) in
        let l = field_length d (of_layer_five ns) f (drop n ns) (drop m nm) (drop q ms) y in
        let c : g.at + 1 + width_of f ≡ g.at + width_of f + 1 = omega arith in
        record {
          left = next_ahead L j f e g.left n' m' q' p r x;
          long = rw o (put_length out (start_of f) (width_of f) t inside l ∙ g.long);
          many = g.many;
          wide = g.wide;
          marked = g.marked;
          at = g.at + width_of f;
          tiled = rw (← c) here.rest;
          whole = g.whole ∙ rw (e, y, drop-drop, drop-drop, drop-drop, p, r, x);
          text =
              rw (
                o,
                put_front out t (start_of f) g.at (width_of f) here.start l (omega (arith, width, g.long)),
                append_assoc,
                p,
                r,
                x,
                ← drop-drop (numbers_of f) n ns,
                ← drop-drop (bytes_of f) m nm,
                ← drop-drop (marks_of f) q ms,
              )
              (rw (e) at g.text);
        }

    -- one that does not fit makes the whole not fit
    pub unfit : field_fits (of_layer_five ns) f (drop n ns) (drop m nm) (drop q ms) ≡ false → fits (of_layer_five ns) L ns nm ms ≡ false
    unfolding fits
    unfit y = g.whole ∙ rw (e, y)

  -- no field is left: the unused entries decide, and the line ends
  pub ends : length L ≤ j
      → (fits (of_layer_five ns) L ns nm ms ≡ no_numbers (take (length ns - n) (drop n ns)) && (no_bytes (take (length nm - m) (drop m nm)) && no_bytes (take (length ms - q) (drop q ms))))
      × (set (set out 72 13) 73 10 ≡ text_of d L ns nm ms ++ (13 ∷ 10 ∷ []))
  unfolding fits text_of tiles
  ends e =
      let z : drop j L ≡ [] = drop_of_length-le L e in
      let a : g.at ≡ 72 = end_column g.at (rw z at g.tiled) in
      let t : take g.at out ++ [] ≡ text_of d L ns nm ms = rw z at g.text in (
        rw (behind ns n, behind nm m, behind ms q) (g.whole ∙ rw z),
        ended out g.long ∙ rw (← t, a, append-nil),
      )

  -- ---- by the sort of the field

  module _ (a b c : ℕ) (e : Stands L j (Letters a b c)) where
    pub letters_next : {y : ℕ} → y ≡ second_letter b c d → Lines d L ns nm ms (set (set out 0 a) 1 y) n m q (j + 1)
    unfolding field_fits field_text
    letters_next {y} s =
        next (Letters a b c) e n m q (omega arith) (omega arith) (omega arith) (set (set out 0 a) 1 y) refl
        (rw s (two_put out a (second_letter b c d) g.long))

  number_first : {v : ℤ} → v ≡ get_or ns n (pos 0) → get_or (drop n ns) 0 (pos 0) ≡ v
  number_first p = get_or-drop n ns 0 (pos 0) ∙ rw (add-zero, p)

  module _ (c w : ℕ) (e : Stands L j (Number c w)) {v : ℤ} (p : v ≡ get_or ns n (pos 0))
      {r : Writing} {out' : List ℕ} (h : Wrote (number_fits out c w v) out c (spell w v) r out') where
    number_fit : field_fits (of_layer_five ns) (Number c w) (drop n ns) (drop m nm) (drop q ms) ≡ number_fits out c w v
    unfolding field_fits number_fits
    number_fit =
        let l : 1 ≤ length (drop n ns) = rw length-drop (omega (arith, (room (Number c w) e).numbers, g.many)) in
        rw (le-leb 1 (length (drop n ns)) l, number_first p, inside (Number c w) e)

    pub number_next : {x : Unit {0}} → r ≡ Ok x → Lines d L ns nm ms out' (n + 1) m q (j + 1)
    unfolding field_text
    number_next z =
        let o = wrote_done h z in
        next (Number c w) e (n + 1) m q refl (omega arith) (omega arith) out' (number_fit ∙ o.0) (o.1 ∙ rw (number_first p))

    pub number_unfit : {u : Unfit} → r ≡ Err u → fits (of_layer_five ns) L ns nm ms ≡ false
    number_unfit z = unfit (Number c w) e (number_fit ∙ (wrote_refused h z).0)

  -- a code: its value v, its mark x, and whether that may stand
  module _ (c w : ℕ) (e : Stands L j (Code c w)) {x : ℕ} (s : x ≡ get_or ms q 0) {t : Bool} (f : t ≡ mark_fits (of_layer_five ns) x) where
    mark_first : get_or (drop q ms) 0 0 ≡ x
    mark_first = get_or-drop q ms 0 0 ∙ rw (add-zero, s)

    code_fit : {v : ℤ} → v ≡ get_or ns n (pos 0) → field_fits (of_layer_five ns) (Code c w) (drop n ns) (drop m nm) (drop q ms) ≡ (code_holds w v x && t)
    unfolding field_fits
    code_fit p =
        let a = room (Code c w) e in
        let l : 1 ≤ length (drop n ns) = rw length-drop (omega (arith, a.numbers, g.many)) in
        let o : 1 ≤ length (drop q ms) = rw length-drop (omega (arith, a.marks, g.marked)) in
        rw (le-leb 1 (length (drop n ns)) l, le-leb 1 (length (drop q ms)) o, number_first p, mark_first, ← f)

    no_way : (b : Bool) → (b && false) ≡ false
    no_way true = refl
    no_way false = refl

    pub mark_unfit : t ≡ false → fits (of_layer_five ns) L ns nm ms ≡ false
    mark_unfit z = unfit (Code c w) e (code_fit refl ∙ rw z (no_way (code_holds w (get_or ns n (pos 0)) x)))

    module _ (y : t ≡ true) {v : ℤ} (p : v ≡ get_or ns n (pos 0)) {r : Writing} {out' : List ℕ}
        (h : Wrote (code_fits out c w v x) out c (spell_code w v x) r out') where
      code_whole : field_fits (of_layer_five ns) (Code c w) (drop n ns) (drop m nm) (drop q ms) ≡ code_fits out c w v x
      unfolding code_fits
      code_whole = code_fit p ∙ rw (y, inside (Code c w) e) (and-true (code_holds w v x))
        where
          and-true : (b : Bool) → (b && true) ≡ b
          and-true true = refl
          and-true false = refl

      pub code_next : {x : Unit {0}} → r ≡ Ok x → Lines d L ns nm ms out' (n + 1) m (q + 1) (j + 1)
      unfolding field_text
      code_next z =
          let o = wrote_done h z in
          next (Code c w) e (n + 1) m (q + 1) refl (omega arith) refl out' (code_whole ∙ o.0) (o.1 ∙ rw (number_first p, mark_first))

      pub code_unfit : {u : Unfit} → r ≡ Err u → fits (of_layer_five ns) L ns nm ms ≡ false
      code_unfit z = unfit (Code c w) e (code_whole ∙ (wrote_refused h z).0)

  module _ (c w : ℕ) (e : Stands L j (Name c w)) {r : Writing} {out' : List ℕ}
      (h : Wrote (name_fits out c w (take (m + w - m) (drop m nm))) out c (take (m + w - m) (drop m nm)) r out') where
    name_part : take (m + w - m) (drop m nm) ≡ take w (drop m nm)
    name_part =
        let z : m + w - m ≡ w = omega arith in
        rw z

    name_fit : field_fits (of_layer_five ns) (Name c w) (drop n ns) (drop m nm) (drop q ms) ≡ name_fits out c w (take w (drop m nm))
    unfolding field_fits name_fits
    name_fit =
        let l : w ≤ length (drop m nm) = rw length-drop (omega (arith, (room (Name c w) e).names, g.wide)) in
        rw (le-leb w (length (drop m nm)) l, inside (Name c w) e, eq-eqb _ w (length-take-le w (drop m nm) l))

    pub name_next : {x : Unit {0}} → r ≡ Ok x → Lines d L ns nm ms out' n (m + w) q (j + 1)
    unfolding field_text
    name_next z =
        let o = wrote_done (rw name_part at h) z in
        next (Name c w) e n (m + w) q (omega arith) refl (omega arith) out' (name_fit ∙ o.0) o.1

    pub name_unfit : {u : Unfit} → r ≡ Err u → fits (of_layer_five ns) L ns nm ms ≡ false
    name_unfit z = unfit (Name c w) e (name_fit ∙ (wrote_refused (rw name_part at h) z).0)

  module _ (c w : ℕ) (e : Stands L j (Blank c w)) {r : Writing} {out' : List ℕ} (h : Wrote (is_inside out c w) out c (replicate w 32) r out') where
    -- blanks always fit
    pub blank_fits : {u : Unfit} → r ≡ Err u → ⊥
    blank_fits z = false≢true (sym (wrote_refused h z).0 ∙ inside (Blank c w) e)

    pub blank_next : Lines d L ns nm ms out' n m q (j + 1)
    unfolding field_fits field_text
    blank_next = next (Blank c w) e n m q (omega arith) (omega arith) (omega arith) out' refl (h.buffer ∙ rw (inside (Blank c w) e))

-- fields that do not fit have no line
pub no_line : (r : Record) {u : Unfit} → fits (of_layer_five r.numbers) (layout_of r.kind) r.numbers r.name r.marks ≡ false → Err u ≡ spelled r
unfolding fields_fit
no_line r h = rw h

-- those that do have their line
pub whole_line : (r : Record) (line : List ℕ) → fits (of_layer_five r.numbers) (layout_of r.kind) r.numbers r.name r.marks ≡ true
    → line ≡ text_of r.letters (layout_of r.kind) r.numbers r.name r.marks ++ (13 ∷ 10 ∷ []) → Ok line ≡ spelled r
unfolding fields_fit record_bytes
whole_line r line h e = rw (h, e)

-- ---- the whole record into a buffer

module _ (before : List ℕ) (r : Record) where
  pub written_short : length before < 74 → Written before r 21 before
  written_short h = record { answer = rw (lt-leb _ _ h); buffer = rw (lt-leb _ _ h) }

  module _ (h : 74 ≤ length before) where
    unfit_by : fits_all r ≡ false → Written before r 20 before
    unfit_by n = record { answer = rw (le-leb _ _ h, n); buffer = rw (le-leb _ _ h, n) }

    -- the letters do not fit
    pub letters_unfit : {t : Bool} → t ≡ letters_fit r.kind r.letters → t ≡ false → Written before r 20 before
    unfolding fits_all
    letters_unfit e n = unfit_by (rw (← e, n))

    -- they do, and the fields do not
    module _ {t : Bool} (e : t ≡ letters_fit r.kind r.letters) (y : t ≡ true) where
      all_by : {u : Bool} → fields_fit r ≡ u → fits_all r ≡ u
      unfolding fits_all
      all_by f = rw (← e, y) f

      unfit_is : {u : Unfit} → spelled r ≡ Err u → fields_fit r ≡ false
      unfit_is z = by (fields_fit r) z
        where
          by : {u : Unfit} (b : Bool) → ◌≡◌ {A = Result (List ℕ) Unfit} (cond b (Ok (record_bytes r)) (Err (record {}))) (Err u) → b ≡ false
          by true z = cc
          by false z = refl

      pub written_unfit : {u : Unfit} → spelled r ≡ Err u → Written before r 20 before
      written_unfit z = unfit_by (all_by (unfit_is z))

      line_is : {line : List ℕ} → spelled r ≡ Ok line → (fields_fit r ≡ true) × (line ≡ record_bytes r)
      line_is z = by (fields_fit r) z
        where
          by : {line : List ℕ} (b : Bool) → ◌≡◌ {A = Result (List ℕ) Unfit} (cond b (Ok (record_bytes r)) (Err (record {}))) (Ok line)
              → (b ≡ true) × (line ≡ record_bytes r)
          by true z = (refl, cc)
          by false z = absurd cc

      pub written_all : {line : List ℕ} → spelled r ≡ Ok line → Written before r 0 (line ++ drop 74 before)
      written_all z =
          let f = line_is z in
          record { answer = rw (le-leb _ _ h, all_by f.0); buffer = rw (le-leb _ _ h, all_by f.0, f.1) }
