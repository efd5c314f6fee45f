-- THE LAWS OF CODE FIELDS, each once over the width. A code is a number field where its mark is 0, so the laws of numbers say it; with
-- mark 1 it is one text, which antt computes. docs/PROMISES.md leads here. Assumes nothing.
use mathlib.Core.Bool.{Bool, true, false}
use mathlib.Core.List.{List, [], ◌∷◌}
use mathlib.Core.Logic.{◌⊎◌, inl, inr}
use mathlib.Core.Path.{◌≡◌, refl, sym, ap, ◌∙◌}
use Prim.Native.Nat.{ℕ, zero, suc}
use native.Mathlib.Omega.{arith}
use lib.Dec.{eqb}
use lib.IntN.{ℤ, pos, negsuc}
use lib.ListN.{length, get_or}
use borrow.Author.Tests.{eq-eqb, eqb-true}
use Rattle.std.specs.Prelude.{Option, Some, None}
use Rattle.fields.specs.Answer.{value_of}
use Rattle.fields.specs.Number.{number_of, number_at, signed_of, plain_of, after_blanks}
use Rattle.fields.specs.Place.{is_inside, bytes_at, put}
use Rattle.fields.proofs.Columns.{spell_length}
use Rattle.fields.proofs.FieldLaws.{number_says, number_read}
use Rattle.fields.proofs.Places.{both, bytes_length, put_inside, put_bytes, put_same}
use Rattle.codes.specs.Code.{land_text, is_land, land_at, code, coded, code_at, code_refusal, code_value, code_mark}
use Rattle.codes.specs.Code.{land_holds, code_holds, spell_code, CodeSays, code_fits}
use Rattle.codes.specs.declared.Code.{Code}

-- ---- the text of land

-- no other text is land
pub land_text_lem : (f : List ℕ) → is_land f ≡ true → f ≡ land_text
unfolding is_land
land_text_lem f h =
    let l = both (eqb (length f) 5) _ h in
    let a = both (eqb (get_or f 0 0) 32) _ l.1 in
    let b = both (eqb (get_or f 1 0) 48) _ a.1 in
    let c = both (eqb (get_or f 2 0) 48) _ b.1 in
    let d = both (eqb (get_or f 3 0) 48) _ c.1 in
    five f (eqb-true _ _ l.0) (eqb-true _ _ a.0) (eqb-true _ _ b.0) (eqb-true _ _ c.0) (eqb-true _ _ d.0) (eqb-true _ _ d.1)
  where
    five : (f : List ℕ) → length f ≡ 5 → get_or f 0 0 ≡ 32 → get_or f 1 0 ≡ 48 → get_or f 2 0 ≡ 48 → get_or f 3 0 ≡ 48 → get_or f 4 0 ≡ 48 → f ≡ land_text
    five [] n p q r s t = absurd (omega arith)
    five (x ∷ []) n p q r s t = absurd (omega arith)
    five (x ∷ y ∷ []) n p q r s t = absurd (omega arith)
    five (x ∷ y ∷ z ∷ []) n p q r s t = absurd (omega arith)
    five (x ∷ y ∷ z ∷ u ∷ []) n p q r s t = absurd (omega arith)
    five (x ∷ y ∷ z ∷ u ∷ v ∷ []) n p q r s t = cc
    five (x ∷ y ∷ z ∷ u ∷ v ∷ w ∷ f) n p q r s t = absurd (omega arith)

-- and it is no number
land_number : number_of land_text ≡ None
unfolding number_of signed_of plain_of after_blanks
land_number = refl

pub land_is : is_land land_text ≡ true
unfolding is_land
land_is = refl

-- ---- what a field says

says_by : (s : List ℕ) (c w : ℕ) (v : ℤ) (m : ℕ) (r : Option ℤ) (land : Bool) → number_at s c w ≡ r → land_at s c w ≡ land
    → coded r land ≡ Some (code v m) → CodeSays s c w v m
unfolding land_at code_holds spell_code
says_by s c w v m (Some u) land e l q =
    let p : u ≡ v = ap code_value q in
    let z : 0 ≡ m = ap code_mark q in
    let h = number_says s c w u e in
    rw (← p, ← z) (record { there = h.there; held = h.held; spelled = h.spelled })
says_by s c w v m None true e l q =
    let p : pos 0 ≡ v = ap code_value q in
    let z : 1 ≡ m = ap code_mark q in
    let b = both (is_inside s c w) (is_land (bytes_at s c w)) l in
    let t = land_text_lem (bytes_at s c w) b.1 in
    let n : w ≡ 5 = sym (bytes_length s c w b.0) ∙ ap length t in
    rw (← p, ← z) (record { there = b.0; held = rw (eq-eqb w 5 n); spelled = t })
says_by s c w v m None false e l q = absurd (cc)

-- a value with its mark is read only where the field says it ..
pub code_says : (s : List ℕ) (c w : ℕ) (v : ℤ) (m : ℕ) → code_at s c w ≡ Some (code v m) → CodeSays s c w v m
unfolding code_at
code_says s c w v m e = says_by s c w v m (number_at s c w) (land_at s c w) refl refl e

-- .. and is read wherever the field says it
land_holds_lem : (w : ℕ) (v : ℤ) → land_holds w v ≡ true → (w ≡ 5) × (v ≡ pos 0)
land_holds_lem w (pos n) h =
    let b = both (eqb w 5) (eqb n 0) h in
    (eqb-true _ _ b.0, ap pos (eqb-true _ _ b.1))
land_holds_lem w (negsuc n) h = absurd (cc)

no_number : (s : List ℕ) (c w : ℕ) → is_inside s c w ≡ true → bytes_at s c w ≡ land_text → number_at s c w ≡ None
unfolding number_at
no_number s c w i t = rw (i, t, land_number)

pub code_read : (s : List ℕ) (c w : ℕ) (v : ℤ) (m : ℕ) → CodeSays s c w v m → code_at s c w ≡ Some (code v m)
unfolding code_at land_at code_holds spell_code
code_read s c w v zero h = rw (number_read s c w v (record { there = h.there; held = h.held; spelled = h.spelled }))
code_read s c w v (suc zero) h =
    let p = land_holds_lem w v h.held in
    let n : number_at s c w ≡ None = no_number s c w h.there h.spelled in
    rw (n, h.there, h.spelled, land_is, p.1)
code_read s c w v (suc (suc m)) h =
    let f = h.held in
    absurd (cc)

-- a code with a mark is 0
pub marked_zero : (s : List ℕ) (c w : ℕ) (v : ℤ) (m : ℕ) → code_at s c w ≡ Some (code v (suc m)) → v ≡ pos 0
unfolding code_holds
marked_zero s c w v zero e = (land_holds_lem w v (code_says s c w v 1 e).held).1
marked_zero s c w v (suc m) e =
    let h = (code_says s c w v (suc (suc m)) e).held in
    absurd (cc)

-- the answer by refusal number (RULES 6.2): 0 with the value and the mark that the field says, or 5 where it says none
answer_by : (s : List ℕ) (c w : ℕ) (r : Option Code) → code_at s c w ≡ r
    → ((code_refusal r ≡ 0) × CodeSays s c w (code_value r) (code_mark r)) ⊎ ((code_refusal r ≡ 5) × ((v : ℤ) (m : ℕ) → CodeSays s c w v m → ⊥))
answer_by s c w (Some k) e = inl (refl, code_says s c w k.value k.mark e)
answer_by s c w None e = inr (refl, λ v m h. refuses (sym e ∙ code_read s c w v m h))
  where
    refuses : {v : ℤ} {m : ℕ} → None ≡ Some (code v m) → ⊥
    refuses q = cc

pub code_answer : (s : List ℕ) (c w : ℕ)
    → ((code_refusal (code_at s c w) ≡ 0) × CodeSays s c w (code_value (code_at s c w)) (code_mark (code_at s c w)))
    ⊎ ((code_refusal (code_at s c w) ≡ 5) × ((v : ℤ) (m : ℕ) → CodeSays s c w v m → ⊥))
code_answer s c w = answer_by s c w (code_at s c w) refl

-- a value with its mark has at most one spelling
pub code_one_spelling : (s : List ℕ) (c : ℕ) (t : List ℕ) (d w : ℕ) (v : ℤ) (m : ℕ)
    → code_at s c w ≡ Some (code v m) → code_at t d w ≡ Some (code v m) → bytes_at s c w ≡ bytes_at t d w
code_one_spelling s c t d w v m p q = (code_says s c w v m p).spelled ∙ sym (code_says t d w v m q).spelled

-- ---- codes and numbers

-- THE VALUE OF A CODE is what the columns say as a number, and land is 0 there too: whoever looks at values alone may read a number
value_by : (r : Option ℤ) (land : Bool) → code_value (coded r land) ≡ value_of r
value_by (Some v) land = refl
value_by None true = refl
value_by None false = refl

pub code_value_lem : (s : List ℕ) (c w : ℕ) → code_value (code_at s c w) ≡ value_of (number_at s c w)
unfolding code_at
code_value_lem s c w = value_by (number_at s c w) (land_at s c w)

-- ---- reading and writing

-- what a field holds fills it
pub spell_code_length : (w : ℕ) (v : ℤ) (m : ℕ) → code_holds w v m ≡ true → length (spell_code w v m) ≡ w
unfolding code_holds spell_code
spell_code_length w v zero h = spell_length w v
spell_code_length w v (suc zero) h = sym (land_holds_lem w v h).0
spell_code_length w v (suc (suc m)) h = absurd (cc)

-- reading what was written gives the value and the mark
pub code_written_read : (s : List ℕ) (c w : ℕ) (v : ℤ) (m : ℕ) → code_fits s c w v m ≡ true → code_at (put s c (spell_code w v m)) c w ≡ Some (code v m)
unfolding code_fits
code_written_read s c w v m f =
    let b = both (is_inside s c w) (code_holds w v m) f in
    let l = spell_code_length w v m b.1 in
    code_read (put s c (spell_code w v m)) c w v m
    (record { there = put_inside s c w (spell_code w v m) b.0 l; held = b.1; spelled = put_bytes s c w (spell_code w v m) b.0 l })

-- writing what was read gives the bytes: it fits, and the buffer stays as it was
pub code_read_written : (s : List ℕ) (c w : ℕ) (v : ℤ) (m : ℕ) → code_at s c w ≡ Some (code v m) → (code_fits s c w v m ≡ true) × (put s c (spell_code w v m) ≡ s)
unfolding code_fits
code_read_written s c w v m e =
    let h = code_says s c w v m e in
    (rw (h.there, h.held), rw (← h.spelled) (put_same s c w h.there))
