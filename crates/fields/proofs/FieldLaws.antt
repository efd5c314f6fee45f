-- THE LAWS OF FIELDS, each once over the width. docs/PROMISES.md leads here; other crates cite these and no definition's text.
-- Assumes nothing.
use mathlib.Core.Bool.{Bool, true, false, cond, ◌&&◌}
use mathlib.Core.List.{List, [], ◌∷◌}
use mathlib.Core.Logic.{◌⊎◌, inl, inr}
use mathlib.Core.Path.{◌≡◌, refl, sym, ◌∙◌}
use Prim.Native.Nat.{ℕ, zero, suc, ◌^◌, ◌<◌}
use native.Mathlib.Nat.{one-le-pow}
use lib.Dec.{eqb, lit<}
use lib.IntN.{ℤ, nat_abs}
use lib.ListN.{length, replicate, length-replicate}
use borrow.Author.Tests.{eq-eqb, eqb-true}
use Rattle.std.specs.Prelude.{Option, Some, None}
use Rattle.fields.specs.Answer.{number_refusal, value_of, text_refusal, writing_refusal, Writing, done, unfit, number_fits, name_fits, Wrote}
use Rattle.fields.specs.Number.{number_of, number_at, holds}
use Rattle.fields.specs.Place.{is_inside, bytes_at, put}
use Rattle.fields.specs.Spelling.{spell, Says}
use Rattle.fields.specs.Text.{is_name, is_blanks, text_at}
use Rattle.fields.proofs.Columns.{spell_length}
use Rattle.fields.proofs.Places.{both, bytes_length, put_inside, put_bytes, put_same}
use Rattle.fields.proofs.Range.{holds_digits, holds_small}
use Rattle.fields.proofs.Spelled.{read_spelled}
use Rattle.fields.proofs.Unspelled.{spelled_read, holds_read}

-- ---- number fields: what a field says

says_by : (s : List ℕ) (c w : ℕ) (v : ℤ) (t : Bool) → is_inside s c w ≡ t → cond t (number_of (bytes_at s c w)) None ≡ Some v → Says s c w v
says_by s c w v true i e =
    let l = bytes_length s c w i in
    record { there = i; held = rw l at (holds_read (bytes_at s c w) v e); spelled = sym (rw l at (spelled_read (bytes_at s c w) v e)) }
says_by s c w v false i e = absurd (cc)

-- a value is read only where the field says it ..
pub number_says : (s : List ℕ) (c w : ℕ) (v : ℤ) → number_at s c w ≡ Some v → Says s c w v
unfolding number_at
number_says s c w v e = says_by s c w v (is_inside s c w) refl e

-- .. and is read wherever the field says it
pub number_read : (s : List ℕ) (c w : ℕ) (v : ℤ) → Says s c w v → number_at s c w ≡ Some v
unfolding number_at
number_read s c w v h = rw (h.there, h.spelled) (read_spelled w v h.held)

-- the answer by refusal number (RULES 6.2): 0 with the value that the field says, or 5 where it says none
answer_by : (s : List ℕ) (c w : ℕ) (r : Option ℤ) → number_at s c w ≡ r
    → ((number_refusal r ≡ 0) × Says s c w (value_of r)) ⊎ ((number_refusal r ≡ 5) × ((v : ℤ) → Says s c w v → ⊥))
answer_by s c w (Some v) e = inl (refl, number_says s c w v e)
answer_by s c w None e = inr (refl, λ v h. refuses (sym e ∙ number_read s c w v h))
  where
    refuses : {v : ℤ} → None ≡ Some v → ⊥
    refuses q = cc

pub number_answer : (s : List ℕ) (c w : ℕ)
    → ((number_refusal (number_at s c w) ≡ 0) × Says s c w (value_of (number_at s c w))) ⊎ ((number_refusal (number_at s c w) ≡ 5) × ((v : ℤ) → Says s c w v → ⊥))
number_answer s c w = answer_by s c w (number_at s c w) refl

-- every value read is in the width's range
pub number_in_range : (s : List ℕ) (c w : ℕ) (v : ℤ) → number_at s c w ≡ Some v → holds w v ≡ true
number_in_range s c w v e = (number_says s c w v e).held

-- what is read of a field, a value or the 0 of a refusal, has no more digits than the field has columns, and at most six
digits_by : (s : List ℕ) (c w : ℕ) (r : Option ℤ) → number_at s c w ≡ r → (nat_abs (value_of r) < 10 ^ w) × (nat_abs (value_of r) < 1000000)
digits_by s c w (Some v) e =
    let h = number_in_range s c w v e in
    (holds_digits w v h, holds_small w v h)
digits_by s c w None e = (one-le-pow w 10 (lit< tt), lit< tt)

pub number_digits : (s : List ℕ) (c w : ℕ) → nat_abs (value_of (number_at s c w)) < 10 ^ w
number_digits s c w = (digits_by s c w (number_at s c w) refl).0

pub number_small : (s : List ℕ) (c w : ℕ) → nat_abs (value_of (number_at s c w)) < 1000000
number_small s c w = (digits_by s c w (number_at s c w) refl).1

-- a field has at most one value
pub number_one_value : (s : List ℕ) (c w : ℕ) (u v : ℤ) → Says s c w u → Says s c w v → u ≡ v
number_one_value s c w u v g h =
    let p = number_read s c w u g in
    let q = number_read s c w v h in
    cc

-- a value has at most one spelling
pub number_one_spelling : (s : List ℕ) (c : ℕ) (t : List ℕ) (d w : ℕ) (v : ℤ)
    → number_at s c w ≡ Some v → number_at t d w ≡ Some v → bytes_at s c w ≡ bytes_at t d w
number_one_spelling s c t d w v p q = (number_says s c w v p).spelled ∙ sym (number_says t d w v q).spelled

-- ---- number fields: reading and writing

fits_both : (s : List ℕ) (c w : ℕ) (v : ℤ) → number_fits s c w v ≡ true → (is_inside s c w ≡ true) × (holds w v ≡ true)
unfolding number_fits
fits_both s c w v f = both (is_inside s c w) (holds w v) f

-- reading what was written gives the value
pub number_written_read : (s : List ℕ) (c w : ℕ) (v : ℤ) → number_fits s c w v ≡ true → number_at (put s c (spell w v)) c w ≡ Some v
number_written_read s c w v f =
    let b = fits_both s c w v f in
    let l = spell_length w v in
    number_read (put s c (spell w v)) c w v
    (record { there = put_inside s c w (spell w v) b.0 l; held = b.1; spelled = put_bytes s c w (spell w v) b.0 l })

-- writing what was read gives the bytes: it fits, and the buffer stays as it was
pub number_read_written : (s : List ℕ) (c w : ℕ) (v : ℤ) → number_at s c w ≡ Some v → (number_fits s c w v ≡ true) × (put s c (spell w v) ≡ s)
unfolding number_fits
number_read_written s c w v e =
    let h = number_says s c w v e in
    (rw (h.there, h.held), rw (← h.spelled) (put_same s c w h.there))

-- ---- name and blank fields: p says what is well formed

-- what is well formed is inside and as p says, and the other way round
pub text_formed : (p : List ℕ → Bool) (s : List ℕ) (c w : ℕ) → text_at p s c w ≡ true → (is_inside s c w ≡ true) × (p (bytes_at s c w) ≡ true)
unfolding text_at
text_formed p s c w e = both (is_inside s c w) (p (bytes_at s c w)) e

pub text_read : (p : List ℕ → Bool) (s : List ℕ) (c w : ℕ) → is_inside s c w ≡ true → p (bytes_at s c w) ≡ true → text_at p s c w ≡ true
unfolding text_at
text_read p s c w i f = rw (i, f)

-- reading what was written gives the bytes
pub text_written_read : (p : List ℕ → Bool) (s : List ℕ) (c w : ℕ) (t : List ℕ) → is_inside s c w ≡ true → length t ≡ w → p t ≡ true
    → (text_at p (put s c t) c w ≡ true) × (bytes_at (put s c t) c w ≡ t)
text_written_read p s c w t i l f =
    let q = put_bytes s c w t i l in
    (text_read p (put s c t) c w (put_inside s c w t i l) (rw q f), q)

-- writing what was read gives the bytes
pub text_read_written : (p : List ℕ → Bool) (s : List ℕ) (c w : ℕ) → text_at p s c w ≡ true → put s c (bytes_at s c w) ≡ s
text_read_written p s c w e = put_same s c w (text_formed p s c w e).0

-- a name that was read fits, and one that fits is read
pub name_read_fits : (s : List ℕ) (c w : ℕ) → text_at is_name s c w ≡ true → name_fits s c w (bytes_at s c w) ≡ true
unfolding name_fits
name_read_fits s c w e =
    let h = text_formed is_name s c w e in
    rw (h.0, eq-eqb _ _ (bytes_length s c w h.0), h.1)

pub name_written_read : (s : List ℕ) (c w : ℕ) (t : List ℕ) → name_fits s c w t ≡ true
    → (text_at is_name (put s c t) c w ≡ true) × (bytes_at (put s c t) c w ≡ t)
unfolding name_fits
name_written_read s c w t f =
    let b = both (is_inside s c w) (eqb (length t) w && is_name t) f in
    let d = both (eqb (length t) w) (is_name t) b.1 in
    text_written_read is_name s c w t b.0 (eqb-true _ _ d.0) d.1

-- blanks have one spelling: spaces
blanks_only : (f : List ℕ) → is_blanks f ≡ true → f ≡ replicate (length f) 32
unfolding is_blanks
blanks_only [] h = refl
blanks_only (b ∷ f) h = only_by b f (λ k. blanks_only f k) (eqb b 32) refl h
  where
    only_by : (b : ℕ) (f : List ℕ) → (is_blanks f ≡ true → f ≡ replicate (length f) 32) → (t : Bool)
        → eqb b 32 ≡ t → cond t (is_blanks f) false ≡ true → b ∷ f ≡ 32 ∷ replicate (length f) 32
    only_by b f ih true e h =
        let q : b ≡ 32 = eqb-true _ _ e in
        rw (q, ← ih h)
    only_by b f ih false e h = absurd (cc)

pub spaces_blank : (w : ℕ) → is_blanks (replicate w 32) ≡ true
unfolding is_blanks
spaces_blank zero = refl
spaces_blank (suc w) = spaces_blank w

pub blank_bytes : (s : List ℕ) (c w : ℕ) → text_at is_blanks s c w ≡ true → bytes_at s c w ≡ replicate w 32
blank_bytes s c w e =
    let h = text_formed is_blanks s c w e in
    blanks_only (bytes_at s c w) h.1 ∙ rw (bytes_length s c w h.0)

pub blank_written_read : (s : List ℕ) (c w : ℕ) → is_inside s c w ≡ true → text_at is_blanks (put s c (replicate w 32)) c w ≡ true
blank_written_read s c w i = (text_written_read is_blanks s c w (replicate w 32) i (length-replicate w 32) (spaces_blank w)).0

pub blank_read_written : (s : List ℕ) (c w : ℕ) → text_at is_blanks s c w ≡ true → put s c (replicate w 32) ≡ s
blank_read_written s c w e = rw (← blank_bytes s c w e) (text_read_written is_blanks s c w e)

-- ---- the other answers by refusal number (RULES 6.2): 5 for what is not well formed, 20 for what does not fit

text_number_by : (t : Bool) → text_refusal t ≡ cond t 0 5
text_number_by true = refl
text_number_by false = refl

pub text_number : (p : List ℕ → Bool) (s : List ℕ) (c w : ℕ) → text_refusal (text_at p s c w) ≡ cond (is_inside s c w && p (bytes_at s c w)) 0 5
unfolding text_at
text_number p s c w = text_number_by (is_inside s c w && p (bytes_at s c w))

writing_number_by : (t : Bool) → writing_refusal (cond t done unfit) ≡ cond t 0 20
writing_number_by true = refl
writing_number_by false = refl

pub writing_number : {fits : Bool} {before t after : List ℕ} {c : ℕ} {r : Writing} → Wrote fits before c t r after → writing_refusal r ≡ cond fits 0 20
writing_number {fits} h = rw h.answer (writing_number_by fits)

-- what a caller learns from a writer's answer: it is written, or nothing fitted
done_by : (t : Bool) → cond t done unfit ≡ done → t ≡ true
done_by true e = refl
done_by false e = absurd (cc)

pub wrote_done : {fits : Bool} {before t after : List ℕ} {c : ℕ} {r : Writing}
    → Wrote fits before c t r after → r ≡ done → (fits ≡ true) × (after ≡ put before c t)
wrote_done {fits} h e =
    let y = done_by fits (sym h.answer ∙ e) in
    (y, h.buffer ∙ rw y)

refused_by : (t : Bool) → cond t done unfit ≡ unfit → t ≡ false
refused_by true e = absurd (cc)
refused_by false e = refl

pub wrote_refused : {fits : Bool} {before t after : List ℕ} {c : ℕ} {r : Writing}
    → Wrote fits before c t r after → r ≡ unfit → (fits ≡ false) × (after ≡ before)
wrote_refused {fits} h e =
    let y = refused_by fits (sym h.answer ∙ e) in
    (y, h.buffer ∙ rw y)
