-- A glance at a field is right: its digits are taken from the right as the reader takes them, and spaces stand before; and whatever it is
-- unsure of says no number from 0 to 99999. Assumes nothing.
use mathlib.Core.Bool.{Bool, true, false, cond, not, ◌&&◌, ◌||◌, and-true, and-false}
use mathlib.Core.List.{List, [], ◌∷◌, ◌++◌}
use mathlib.Core.Path.{◌≡◌, refl, sym, ap, ◌∙◌}
use Prim.Native.Nat.{ℕ, zero, suc, ◌+◌, ◌-◌, ◌*◌, ◌^◌, ◌≤◌, ◌<◌}
use native.Mathlib.Nat.{sub_self, pow-suc, add-mul, mul_assoc, mul_comm, pow-le-pow_right}
use native.Mathlib.Omega.{arith}
use lib.Dec.{leb, ltb, eqb, lit<, lit≤}
use lib.IntN.{ℤ, pos, negsuc}
use lib.ListN.{length, get_or, take, drop, replicate, length-append, length-replicate, length-drop, drop_of_length-le}
use lib.Seq.{drop-cons}
use borrow.Author.Tests.{ltb-true, ltb-false, lt-ltb, le-ltb, le-leb, leb-true, leb-false, eqb-true, eqb-false, eq-eqb, ne_eqb, not-false}
use Rattle.std.specs.Bool.{then_some}
use Rattle.std.specs.Prelude.{Option, Some, None}
use Rattle.fields.specs.Answer.{value_of}
use Rattle.fields.specs.Ending.{DigitsFrom, EndsIn, Plain}
use Rattle.glances.specs.Glimpse.{glimpse_of, is_lone_zero}
use Rattle.fields.specs.Number.{is_digit, is_minus, is_width, number_of, signed_of, plain_of, zero_then, digits_of, minus, after_blanks}
use Rattle.fields.specs.Text.{is_blanks}
use Rattle.fields.proofs.FromRight.{digits_none, digits_more, too_wide, taken, taken_plain, taken_minus}
use Rattle.fields.proofs.FromRight.{refused_endless, refused_zero, refused_minus, refused_other}
use Rattle.fields.proofs.Places.{both}

-- what a sure glance says of the answer n
sure_by : {v : ℕ} (n : Option ℤ) → glimpse_of n ≡ Some v → (n ≡ Some (pos v)) × (v < 100000)
sure_by {v} (Some (pos m)) e = by (ltb m 100000) refl e
  where
    by : (t : Bool) → ltb m 100000 ≡ t → cond t (Some m) None ≡ Some v → (Some (pos m) ≡ Some (pos v)) × (v < 100000)
    by true l e =
        let q : m ≡ v = cc in
        let s : m < 100000 = ltb-true _ _ l in
        (rw q, rw q at s)
    by false l e = absurd (cc)
sure_by (Some (negsuc m)) e = absurd (cc)
sure_by None e = absurd (cc)

pub sure_says : {n : Option ℤ} {v : ℕ} (g : Option ℕ) → g ≡ Some v → g ≡ glimpse_of n → (n ≡ Some (pos v)) × (v < 100000)
sure_says {n} g e h = sure_by n (sym h ∙ e)

-- and an unsure one
pub unsure_says : {n : Option ℤ} {v : ℕ} (g : Option ℕ) → g ≡ None → g ≡ glimpse_of n → n ≡ Some (pos v) → 100000 ≤ v
unsure_says {n} {v} g e h q = by (ltb v 100000) refl (sym (ap glimpse_of q) ∙ sym h ∙ e)
  where
    by : (t : Bool) → ltb v 100000 ≡ t → cond t (Some v) None ≡ None → 100000 ≤ v
    by true l e = absurd (cc)
    by false l e = ltb-false _ _ l

-- a byte that passed the code's test
pub record Digit (b : ℕ) : Type 0 where
  pub low : 48 ≤ b
  pub high : b ≤ 57

pub is_digit_lem : (b : ℕ) → is_digit b ≡ true → Digit b
is_digit_lem b h =
    let t = both (leb 48 b) (leb b 57) h in
    record { low = leb-true _ _ t.0; high = leb-true _ _ t.1 }

pub passed_digit : (b : ℕ) (r : Bool) → r ≡ is_digit b → r ≡ true → Digit b
passed_digit b r e n = is_digit_lem b (sym e ∙ n)

abbrev pub bytes : ℕ → ℕ → ℕ → ℕ → ℕ → List ℕ
bytes a b c d e = a ∷ b ∷ c ∷ d ∷ e ∷ []

-- the last byte alone
last_digit : (f : List ℕ) → 0 < length f → Digit (get_or f (length f - 1) 0) → DigitsFrom f (length f - 1) (get_or f (length f - 1) 0 - 48)
last_digit f p h =
    let z : 0 + (get_or f (length f - 1) 0 - 48) * 1 ≡ get_or f (length f - 1) 0 - 48 = omega arith in
    rw z at (digits_more f (length f) 0 1 p (rw sub_self) (digits_none f) h.low h.high).0

pub one_digit : (a b c d e : ℕ) → Digit e → DigitsFrom (bytes a b c d e) 4 (e - 48)
one_digit a b c d e h = last_digit (bytes a b c d e) (lit< tt) h

-- the byte at index i before them
pub next_digit : (f : List ℕ) (i n u : ℕ) → 0 < i → u ≡ 10 ^ (length f - i) → DigitsFrom f i n → Digit (get_or f (i - 1) 0)
    → DigitsFrom f (i - 1) (n + (get_or f (i - 1) 0 - 48) * u)
next_digit f i n u p e s h = (digits_more f i n u p e s h.low h.high).0

-- ---- what the digits at the end of a field say at a glance

glimpse_small : (n : ℕ) → n < 100000 → glimpse_of (Some (pos n)) ≡ Some n
glimpse_small n l = rw (lt-ltb _ _ l)

-- nothing, where a "-" stands before them
glimpse_minus : (x : Option ℤ) → glimpse_of (minus x) ≡ None
glimpse_minus (Some (pos zero)) = refl
glimpse_minus (Some (pos (suc n))) = refl
glimpse_minus (Some (negsuc n)) = refl
glimpse_minus None = refl

some_before : (f : List ℕ) (i : ℕ) → is_blanks (take i f) ≡ false → 0 < i
unfolding is_blanks
some_before f zero e = absurd (cc)
some_before f (suc i) e = omega arith

module _ {f : List ℕ} {i n : ℕ} (g : Plain f i n) where
  -- nothing too, where anything but spaces does
  glimpse_behind : (p : 0 < i) → is_blanks (take i f) ≡ false → (t b : Bool) → eqb (get_or f (i - 1) 0) 45 ≡ t → is_blanks (take (i - 1) f) ≡ b
      → glimpse_of (number_of f) ≡ None
  glimpse_behind p s true true t b = ap glimpse_of (taken_minus g p (eqb-true _ _ t) b) ∙ glimpse_minus (Some (pos n))
  glimpse_behind p s true false t b = ap glimpse_of (refused_minus g p b)
  glimpse_behind p s false _ t b = ap glimpse_of (refused_other g p (eqb-false _ _ t) s)

  glimpse_plain : length f ≤ 5 → (b : Bool) → is_blanks (take i f) ≡ b → then_some b n ≡ glimpse_of (number_of f)
  glimpse_plain w true b =
      let u : 10 ^ (length f - i) ≤ 10 ^ 5 = pow-le-pow_right (lit< tt) {i = length f - i} {j = 5} (omega arith) in
      sym (ap glimpse_of (taken_plain g b) ∙ glimpse_small n (omega (arith, g.ends.digits.small)))
  glimpse_plain w false b = sym (glimpse_behind (some_before f i b) b (eqb (get_or f (i - 1) 0) 45) (is_blanks (take (i - 1) f)) refl refl)

-- the digits from index i on are the number where a first 0 is alone and spaces stand before, and else there is nothing to be sure of
abbrev pub is_sure : List ℕ → ℕ → Bool
is_sure f i = (eqb (i + 1) (length f) || not (eqb (get_or f i 0) 48)) && is_blanks (take i f)

module _ {f : List ℕ} {i n : ℕ} (e : EndsIn f i n) (l : i < length f) (w : length f ≤ 5) where
  glimpse_by : (a z : Bool) → eqb (i + 1) (length f) ≡ a → eqb (get_or f i 0) 48 ≡ z
      → then_some ((a || not z) && is_blanks (take i f)) n ≡ glimpse_of (number_of f)
  glimpse_by true z a q = glimpse_plain (record { ends = e; some = l; narrow = omega arith; alone = λ _. eqb-true _ _ a }) w (is_blanks (take i f)) refl
  glimpse_by false false a q =
      glimpse_plain (record { ends = e; some = l; narrow = omega arith; alone = λ y. absurd (eqb-false _ _ q y) }) w (is_blanks (take i f)) refl
  glimpse_by false true a q = sym (ap glimpse_of (refused_zero e l (eqb-true _ _ q) (eqb-false _ _ a)))

  pub glimpse : (t : Bool) → t ≡ is_sure f i → then_some t n ≡ glimpse_of (number_of f)
  glimpse t q = rw q (glimpse_by (eqb (i + 1) (length f)) (eqb (get_or f i 0) 48) refl refl)

-- no digit at the end
pub glimpse_endless : (a b c d e : ℕ) → is_digit e ≡ false → None ≡ glimpse_of (number_of (bytes a b c d e))
glimpse_endless a b c d e h =
    let g : EndsIn (bytes a b c d e) 5 0 = record { digits = digits_none (bytes a b c d e); all = λ q. h } in
    sym (ap glimpse_of (refused_endless g (lit≤ tt)))

-- the code's tests, in the order of the definition
four_tests : (p q r s : Bool) → ((p && q) && r) && s ≡ cond p (cond q (cond r (cond s true false) false) false) false
four_tests true true true true = refl
four_tests true true true false = refl
four_tests true true false s = refl
four_tests true false r s = refl
four_tests false q r s = refl

three_tests : (p q r s : Bool) → ((p && q) && r) && s ≡ s && cond p (cond q (cond r true false) false) false
three_tests true true true s = sym (and-true s)
three_tests true true false s = sym (and-false s)
three_tests true false r s = sym (and-false s)
three_tests false q r s = sym (and-false s)

two_tests : (p q s : Bool) → (p && q) && s ≡ s && cond p (cond q true false) false
two_tests true true s = sym (and-true s)
two_tests true false s = sym (and-false s)
two_tests false q s = sym (and-false s)

-- each place where the digits of five bytes may begin, with the code's test
module _ {a b c d e n : ℕ} where
  pub from_4 : EndsIn (bytes a b c d e) 4 n → then_some (((eqb a 32 && eqb b 32) && eqb c 32) && eqb d 32) n ≡ glimpse_of (number_of (bytes a b c d e))
  unfolding is_blanks
  from_4 g = glimpse g (lit< tt) (lit≤ tt) _ (four_tests (eqb a 32) (eqb b 32) (eqb c 32) (eqb d 32))

  pub from_3 : EndsIn (bytes a b c d e) 3 n → then_some (((eqb a 32 && eqb b 32) && eqb c 32) && not (eqb d 48)) n ≡ glimpse_of (number_of (bytes a b c d e))
  unfolding is_blanks
  from_3 g = glimpse g (lit< tt) (lit≤ tt) _ (three_tests (eqb a 32) (eqb b 32) (eqb c 32) (not (eqb d 48)))

  pub from_2 : EndsIn (bytes a b c d e) 2 n → then_some ((eqb a 32 && eqb b 32) && not (eqb c 48)) n ≡ glimpse_of (number_of (bytes a b c d e))
  unfolding is_blanks
  from_2 g = glimpse g (lit< tt) (lit≤ tt) _ (two_tests (eqb a 32) (eqb b 32) (not (eqb c 48)))

  -- a digit b behind a byte a that is none
  from_1_by : EndsIn (bytes a b c d e) 1 n → (s z : Bool) → eqb a 32 ≡ s → eqb b 48 ≡ z
      → then_some (not z && s) n ≡ glimpse_of (number_of (bytes a b c d e))
  unfolding is_blanks
  from_1_by g s z p q = glimpse g (lit< tt) (lit≤ tt) (not z && s) (rw (p, q) (ap (λ x. not z && x) (same s)))
    where
      same : (s : Bool) → s ≡ cond s true false
      same true = refl
      same false = refl

  pub from_1 : DigitsFrom (bytes a b c d e) 1 n → a ≡ 32 → then_some (not (eqb b 48)) n ≡ glimpse_of (number_of (bytes a b c d e))
  from_1 s p = rw and-true at (from_1_by (record { digits = s; all = λ y. rw p }) true (eqb b 48) (eq-eqb _ _ p) refl)

  pub from_0 : DigitsFrom (bytes a b c d e) 1 n → Digit a → (z : Bool) → eqb a 48 ≡ z
      → then_some (not z) (n + (a - 48) * 10000) ≡ glimpse_of (number_of (bytes a b c d e))
  unfolding is_blanks
  from_0 s h z q =
      let g : EndsIn (bytes a b c d e) 0 (n + (a - 48) * 10000) = record {
        digits = next_digit (bytes a b c d e) 1 n 10000 (lit< tt) refl s h;
        all = λ p. absurd (omega arith);
      } in
      glimpse g (lit< tt) (lit≤ tt) (not z) (rw q (sym (and-true (not z))))

  -- neither a space nor a first digit stands before the other four; r is whether it is a digit
  pub from_none : DigitsFrom (bytes a b c d e) 1 n → (a ≡ 32 → ⊥) → (r : Bool) → r ≡ is_digit a → r && not (eqb a 48) ≡ false
      → None ≡ glimpse_of (number_of (bytes a b c d e))
  from_none s p true r h = from_0 s (is_digit_lem a (sym r)) true (not-false _ h)
  from_none s p false r h = rw and-false at (from_1_by (record { digits = s; all = λ q. sym r }) false (eqb b 48) (ne_eqb _ _ p) refl)

-- ---- a field of another width

-- a space in front changes nothing
space_before : (f : List ℕ) → 1 ≤ length f → length f ≤ 5 → number_of (32 ∷ f) ≡ number_of f
unfolding number_of after_blanks
space_before f l h =
    let p : 1 ≤ suc (length f) = omega arith in
    let q : suc (length f) ≤ 6 = omega arith in
    let r : length f ≤ 6 = omega arith in
    rw (le-leb 1 (length f) l, le-leb (length f) 6 r, le-leb 1 (suc (length f)) p, le-leb (suc (length f)) 6 q)

-- nor do k of them
spaces_before : (k : ℕ) (f : List ℕ) → 1 ≤ length f → k + length f ≤ 6 → number_of (replicate k 32 ++ f) ≡ number_of f
spaces_before zero f l h = refl
spaces_before (suc k) f l h =
    let w : length (replicate k 32 ++ f) ≡ k + length f = length-append (replicate k 32) f ∙ rw length-replicate in
    space_before (replicate k 32 ++ f) (rw w (omega arith)) (rw w (omega arith)) ∙ spaces_before k f l (omega arith)

-- the n bytes of f from index i on, one by one
unfoldable pub entries : List ℕ → ℕ → ℕ → List ℕ
entries f i zero = []
entries f i (suc n) = get_or f i 0 ∷ entries f (suc i) n

pub entries_are : (f : List ℕ) (i n : ℕ) → i + n ≡ length f → entries f i n ≡ drop i f
unfolding entries
entries_are f i zero e = sym (drop_of_length-le f {i = i} (omega arith))
entries_are f i (suc n) e =
    let l : i < length f = omega arith in
    rw (entries_are f (suc i) n (omega arith)) (sym (drop-cons f i 0 l))

-- so n bytes say what they say behind k spaces
pub short_is : (k n : ℕ) (f : List ℕ) → length f ≡ n → 1 ≤ n → k + n ≤ 6 → number_of f ≡ number_of (replicate k 32 ++ entries f 0 n)
short_is k n f w l h = rw (entries_are f 0 n (omega arith)) (sym (spaces_before k f (omega arith) (omega arith)))

-- and six bytes of which the first is a space what the other five say
pub long_is : (f : List ℕ) → length f ≡ 6 → get_or f 0 0 ≡ 32 → number_of f ≡ number_of (entries f 1 5)
long_is f w b =
    let l : 0 < length f = omega arith in
    let e : f ≡ 32 ∷ drop 1 f = drop-cons f 0 0 l ∙ rw b in
    rw (entries_are f 1 5 (omega arith)) (ap number_of e ∙ space_before (drop 1 f) (rw length-drop (omega arith)) (rw length-drop (omega arith)))

-- ---- a field of six bytes, none of them a space

-- digits behind a, which say at least what a is worth there
glimpse_large : (ds : List ℕ) (a : ℕ) → 100000 ≤ a * 10 ^ length ds → glimpse_of (digits_of a ds) ≡ None
unfolding digits_of
glimpse_large [] a h = rw (le-ltb a 100000 (omega arith))
glimpse_large (b ∷ ds) a h = by (is_digit b) (glimpse_large ds (a * 10 + (b - 48)) (omega (arith, more)))
  where
    more : a * 10 ^ suc (length ds) ≤ (a * 10 + (b - 48)) * 10 ^ length ds
    more = rw (pow-suc, add-mul, mul_assoc, mul_comm 10 (10 ^ length ds)) (omega arith)

    by : (t : Bool) → glimpse_of (digits_of (a * 10 + (b - 48)) ds) ≡ None → glimpse_of (cond t (digits_of (a * 10 + (b - 48)) ds) None) ≡ None
    by true k = k
    by false k = refl

six_digits : (b : ℕ) (bs : List ℕ) → length bs ≡ 5 → (b ≡ 48 → ⊥) → (t : Bool) → is_digit b ≡ t
    → glimpse_of (cond t (digits_of (0 * 10 + (b - 48)) bs) None) ≡ None
six_digits b bs w z true t =
    let d = is_digit_lem b t in
    let p : 1 ≤ b - 48 = omega (arith, d.low) in
    glimpse_large bs (0 * 10 + (b - 48)) (rw w (omega arith))
six_digits b bs w z false t = refl

-- by the first of them: "-", "0" or another
six_by : (b : ℕ) (bs : List ℕ) → length bs ≡ 5 → (m z : Bool) → eqb b 48 ≡ z
    → glimpse_of (cond m (minus (plain_of bs)) (cond z (zero_then bs) (digits_of 0 (b ∷ bs)))) ≡ None
unfolding digits_of
six_by b bs w true z q = glimpse_minus (plain_of bs)
six_by b bs w false false q = six_digits b bs w (eqb-false _ _ q) (is_digit b) refl
six_by b (x ∷ bs) w false true q = refl
six_by b [] w false true q = absurd (omega arith)

six_first : (b : ℕ) (bs : List ℕ) → length bs ≡ 5 → (b ≡ 32 → ⊥) → glimpse_of (signed_of (after_blanks (b ∷ bs))) ≡ None
unfolding signed_of after_blanks plain_of
six_first b bs w n =
    let e : after_blanks (b ∷ bs) ≡ b ∷ bs = rw (ne_eqb _ _ n) in
    ap (λ f. glimpse_of (signed_of f)) e ∙ (six_by b bs w (is_minus b) (eqb b 48) refl)

pub glimpse_six : (f : List ℕ) → length f ≡ 6 → (get_or f 0 0 ≡ 32 → ⊥) → None ≡ glimpse_of (number_of f)
glimpse_six [] w n = absurd (omega arith)
glimpse_six (b ∷ bs) w n = sym (ap glimpse_of (taken (b ∷ bs) (omega arith) (omega arith)) ∙ six_first b bs (omega arith) n)

-- a field without a byte, or of more than six
pub glimpse_other : (f : List ℕ) → is_width (length f) ≡ false → None ≡ glimpse_of (number_of f)
unfolding number_of
glimpse_other f n = rw n

-- ---- a field that ends in a space and a "0"

-- the zero is the value, or the field is refused
module _ (f : List ℕ) (l : 2 ≤ length f) (z : get_or f (length f - 1) 0 ≡ 48) (s : get_or f (length f - 1 - 1) 0 ≡ 32) where
  zero_plain : length f ≤ 6 → Plain f (length f - 1) 0
  zero_plain h =
      let n : get_or f (length f - 1) 0 - 48 ≡ 0 = rw z in
      record {
        ends = record { digits = rw n at (last_digit f (omega arith) (record { low = omega arith; high = omega arith })); all = λ q. rw s };
        some = omega arith;
        narrow = h;
        alone = λ q. omega arith;
      }

  zero_by : (w b : Bool) → leb (length f) 6 ≡ w → is_blanks (take (length f - 1) f) ≡ b → value_of (number_of f) ≡ pos 0
  zero_by true true h b = ap value_of (taken_plain (zero_plain (leb-true _ _ h)) b)
  zero_by true false h b = ap value_of (refused_other (zero_plain (leb-true _ _ h)) (omega arith) (λ q. omega arith) b)
  zero_by false _ h b = ap value_of (too_wide f (leb-false _ _ h))

-- by the answer to whether there are two columns
zero_alone_by : (f : List ℕ) (t : Bool) → leb 2 (length f) ≡ t
    → t && (eqb (get_or f (length f - 1) 0) 48 && eqb (get_or f (length f - 2) 0) 32) ≡ true → value_of (number_of f) ≡ pos 0
zero_alone_by f true l h =
    let x = both (eqb (get_or f (length f - 1) 0) 48) (eqb (get_or f (length f - 2) 0) 32) h in
    let e : length f - 1 - 1 ≡ length f - 2 = omega arith in
    zero_by f (leb-true _ _ l) (eqb-true _ _ x.0) (rw e (eqb-true _ _ x.1)) (leb (length f) 6) (is_blanks (take (length f - 1) f)) refl refl
zero_alone_by f false l h = absurd (cc)

pub zero_alone : (f : List ℕ) → is_lone_zero f ≡ true → value_of (number_of f) ≡ pos 0
unfolding is_lone_zero
zero_alone f h = zero_alone_by f (leb 2 (length f)) refl h
