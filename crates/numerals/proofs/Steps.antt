-- One step of each definition of a number field, at an index of the field: blanks, sign, digits, as the code takes them from the left.
-- Assumes nothing.
use mathlib.Core.Bool.{Bool, true, false, cond, not, ◌&&◌}
use mathlib.Core.List.{List, [], ◌∷◌}
use mathlib.Core.Path.{◌≡◌, refl, sym, ap, ◌∙◌}
use Prim.Native.Nat.{ℕ, zero, suc, ◌+◌, ◌-◌, ◌*◌, ◌^◌, ◌≤◌, ◌<◌}
use native.Mathlib.Nat.{pow-suc, pow-le-pow_right}
use native.Mathlib.Numerals.{add-one}
use native.Mathlib.Omega.{arith}
use lib.Dec.{leb, eqb, lit<, lit≤}
use lib.IntN.{pos}
use lib.ListN.{length, get_or, take, drop, length-drop, drop_of_length-le}
use lib.Seq.{drop-cons, take-length}
use borrow.Author.Tests.{eq-eqb, ne_eqb, eqb-true, eqb-false, leb-true, not-true, not-false}
use Rattle.std.specs.Prelude.{Option, Some, None, MatchOption, EachIndex, slice_index, ◌≢◌}
use Rattle.fields.specs.Number.{is_digit, after_blanks, digits_of, zero_then, plain_of, signed_of, is_width, number_of, number_at}
use Rattle.fields.specs.Place.{is_inside, bytes_at}
use Rattle.fields.proofs.Spelled.{signed}
use Rattle.fields.proofs.Unspelled.{digit_range}
use Rattle.fields.proofs.Places.{both, inside_fits, bytes_length}

-- ---- a field that lies within s: f are its bytes

module _ (s : List ℕ) (c w : ℕ) (i : is_inside s c w ≡ true) {f : List ℕ} (q : f ≡ bytes_at s c w) where
  pub part_length : length f ≡ w
  part_length = ap length q ∙ bytes_length s c w i

  -- r is the answer to whether number fields have that width
  module _ (r : Bool) (e : r ≡ is_width w) where
    pub width_refused : r ≡ false → None ≡ number_at s c w
    unfolding number_at number_of
    width_refused t = rw (i, bytes_length s c w i, ← e, t)

    pub width_most : r ≡ true → length f ≤ 6
    width_most t =
        let m : w ≤ 6 = leb-true _ _ (both (leb 1 w) (leb w 6) (sym e ∙ t)).1 in
        rw part_length m

    pub width_taken : r ≡ true → number_at s c w ≡ signed_of (after_blanks f)
    unfolding number_at number_of
    width_taken t = rw (i, bytes_length s c w i, ← e, t, q)

-- a whole field, as its own columns from 1 on
pub whole_field : (f : List ℕ) → number_at f 1 (length f) ≡ number_of f
unfolding number_at bytes_at
whole_field f = rw (inside_fits f 1 (length f) (lit≤ tt) (omega arith), take-length f)

-- ---- blanks

pub blanks_all : (f : List ℕ) → ((k : ℕ) → k < length f → get_or f k 0 ≡ 32) → after_blanks f ≡ []
unfolding after_blanks
blanks_all [] h = refl
blanks_all (b ∷ f) h = rw (eq-eqb _ _ (h 0 (omega arith))) (blanks_all f (λ k l. h (suc k) (omega arith)))

-- up to index i
pub blanks_before : (f : List ℕ) (i : ℕ) → i < length f → ((k : ℕ) → k < i → get_or f k 0 ≡ 32) → (get_or f i 0 ≡ 32 → ⊥) → after_blanks f ≡ drop i f
unfolding after_blanks
blanks_before [] i l h n = absurd (omega arith)
blanks_before (b ∷ f) zero l h n = rw (ne_eqb _ _ n)
blanks_before (b ∷ f) (suc i) l h n = rw (eq-eqb _ _ (h 0 (omega arith))) (blanks_before f i (omega arith) (λ k m. h (suc k) (omega arith)) n)

pub nothing_said : signed_of [] ≡ None
unfolding signed_of
nothing_said = refl

-- what the search of the first byte that is no space found
abbrev pub Found : List ℕ → Option ℕ → Type 0
Found f o = MatchOption o (EachIndex f (λ k. slice_index f k ≡ 32)) (λ i. (i < length f) × ((k : ℕ) → k < i → slice_index f k ≡ 32) × (slice_index f i ≢ 32))

pub found_none : (f : List ℕ) (o : Option ℕ) → Found f o → o ≡ None → after_blanks f ≡ []
found_none f None h e = blanks_all f h
found_none f (Some i) h e = absurd (cc)

pub found_some : (f : List ℕ) (o : Option ℕ) {i : ℕ} → Found f o → o ≡ Some i → (i < length f) × (after_blanks f ≡ drop i f)
found_some f None h e = absurd (cc)
found_some f (Some j) {i} h e =
    let q : j ≡ i = cc in
    rw (← q) (h.0, blanks_before f j h.0 h.1 h.2)

-- the part that the code cuts out from index i on
pub rest_is : (f : List ℕ) (i : ℕ) → take (length f - i) (drop i f) ≡ drop i f
rest_is f i = rw (← length-drop i f) (take-length (drop i f))

-- ---- sign: m is the answer to whether there is a minus sign

pub sign_refused : (m : Bool) → signed m None ≡ None
sign_refused true = refl
sign_refused false = refl

-- the byte at index i is one or not: the digits are from index j on
module _ (f : List ℕ) (i : ℕ) (h : i < length f) where
  pub sign_minus : eqb (get_or f i 0) 45 ≡ true → (j : ℕ) → j ≡ i + 1 → signed_of (drop i f) ≡ signed (eqb (get_or f i 0) 45) (plain_of (drop j f))
  unfolding signed_of
  sign_minus t j e = rw (e, add-one, drop-cons f i 0 h, t)

  pub sign_none : eqb (get_or f i 0) 45 ≡ false → (j : ℕ) → j ≡ i → signed_of (drop i f) ≡ signed (eqb (get_or f i 0) 45) (plain_of (drop j f))
  unfolding signed_of
  sign_none t j e = rw (e, drop-cons f i 0 h, t)

-- ---- digits

pub digits_none : (f : List ℕ) → length f < 1 → plain_of f ≡ None
unfolding plain_of
digits_none [] h = refl
digits_none (b ∷ f) h = absurd (omega arith)

-- by the code's test of a leading zero
pub zero_leads : (f : List ℕ) → 1 ≤ length f → eqb (get_or f 0 0) 48 && not (eqb (length f) 1) ≡ true → plain_of f ≡ None
unfolding plain_of
zero_leads [] l t = absurd (omega arith)
zero_leads (b ∷ []) l t = absurd (eqb-false 1 1 (not-true _ (both (eqb b 48) _ t).1) refl)
zero_leads (b ∷ x ∷ f) l t = rw (both (eqb b 48) _ t).0

lead_by : (b : ℕ) (f : List ℕ) (z : Bool) → eqb b 48 ≡ z → z && not (eqb (suc (length f)) 1) ≡ false
    → cond z (zero_then f) (digits_of 0 (b ∷ f)) ≡ digits_of 0 (b ∷ f)
unfolding digits_of
lead_by b [] true e t = rw (eqb-true b 48 e)
lead_by b (x ∷ f) true e t =
    let n : suc (suc (length f)) ≡ 1 = eqb-true _ _ (not-false _ t) in
    absurd (omega arith)
lead_by b f false e t = refl

pub digits_lead : (f : List ℕ) → 1 ≤ length f → eqb (get_or f 0 0) 48 && not (eqb (length f) 1) ≡ false → plain_of f ≡ digits_of 0 f
unfolding plain_of
digits_lead [] l t = absurd (omega arith)
digits_lead (b ∷ f) l t = lead_by b f (eqb b 48) refl t

-- where those before index i came to n; r is the answer to whether a digit stands there
module _ (f : List ℕ) (i n : ℕ) where
  pub digits_end : length f ≤ i → digits_of n (drop i f) ≡ Some (pos n)
  unfolding digits_of
  digits_end h = rw (drop_of_length-le f h)

  module _ (h : i < length f) (r : Bool) (e : r ≡ is_digit (get_or f i 0)) where
    pub digits_more : r ≡ true → digits_of n (drop i f) ≡ digits_of (n * 10 + (get_or f i 0 - 48)) (drop (i + 1) f)
    unfolding digits_of
    digits_more t = rw (add-one, drop-cons f i 0 h, ← e, t)

    pub digits_stop : r ≡ false → digits_of n (drop i f) ≡ None
    unfolding digits_of
    digits_stop t = rw (drop-cons f i 0 h, ← e, t)

-- a byte that is a digit
pub digit_most : (b : ℕ) → is_digit b ≡ true → b - 48 ≤ 9
digit_most b e = omega (arith, (digit_range b e).1)

-- i digits come to less than 10 ^ i, one more to less than ten times that, and at most k to less than 10 ^ k
pub sum_more : (i n d : ℕ) → n < 10 ^ i → d ≤ 9 → n * 10 + d < 10 ^ (i + 1)
sum_more i n d h l = rw (add-one, pow-suc) (omega arith)

pub sum_below : (i n k : ℕ) → n < 10 ^ i → i ≤ k → n < 10 ^ k
sum_below i n k h l =
    let p : 10 ^ i ≤ 10 ^ k = pow-le-pow_right (lit< tt) {i = i} {j = k} l in
    omega arith
