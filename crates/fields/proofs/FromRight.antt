-- The reader goes from the right and the definition from the left: they give the same answer. What the definition makes of a field
-- hangs on the digits at its end and on the byte before them, since a byte that is no digit refuses every digit to its left.
-- Assumes nothing.
use mathlib.Core.Bool.{Bool, true, false, cond, ◌&&◌, not}
use mathlib.Core.List.{List, [], ◌∷◌, ◌++◌}
use mathlib.Core.Path.{◌≡◌, refl, sym, ap, ◌∙◌}
use Prim.Native.Nat.{ℕ, zero, suc, ◌+◌, ◌-◌, ◌*◌, ◌^◌, ◌≤◌, ◌<◌}
use native.Mathlib.Nat.{pow-suc, sub_self, add-mul, mul_assoc, mul_comm, le_refl, mul-le-mul_right, pow-le-pow_right}
use native.Mathlib.Omega.{arith}
use lib.Dec.{lit<, lit≤, leb, eqb}
use lib.IntN.{ℤ, pos}
use lib.ListN.{length, get_or, take, drop, take-append-drop, drop_of_length-le}
use lib.Seq.{drop-cons, drop-length, split_at, take-suc}
use borrow.Author.Tests.{le-leb, lt-leb, ne_eqb, eq-eqb, eqb-true, eqb-false, not-true, not-false}
use Rattle.std.specs.Prelude.{Option, Some, None}
use Rattle.fields.specs.Ending.{DigitsFrom, EndsIn, Plain}
use Rattle.fields.specs.Number.{is_blank, is_minus, is_digit, after_blanks, digits_of, zero_then, plain_of, minus, signed_of, number_of}
use Rattle.fields.specs.Text.{is_blanks}
use Rattle.fields.proofs.Places.{both}
use Rattle.fields.proofs.Spelled.{digit_first, minus_first}

-- ---- the digits, one more at each step to the left

pub digits_none : (f : List ℕ) → DigitsFrom f (length f) 0
unfolding digits_of
digits_none f = record {
  inside = le_refl (length f);
  start = λ h. absurd (omega arith);
  small = rw sub_self (lit< tt);
  said = λ a. rw (drop-length f, sub_self) (ap (λ x. Some (pos x)) (omega arith));
}

-- a digit d, worth u, before what says n
place_value : (a d u n : ℕ) → (a * 10 + d) * u + n ≡ a * (u * 10) + (n + d * u)
place_value a d u n = rw (add-mul, mul_assoc, mul_comm 10 u) (omega arith)

still_small : (d u n : ℕ) → d ≤ 9 → n < u → n + d * u < u * 10
still_small d u n h l = omega (arith, mul-le-mul_right u h)

module _ (f : List ℕ) (j n : ℕ) (s : DigitsFrom f (suc j) n) (low : 48 ≤ get_or f j 0) (high : get_or f j 0 ≤ 57) where
  units : 10 ^ (length f - j) ≡ 10 ^ (length f - suc j) * 10
  units =
      let e : length f - j ≡ suc (length f - suc j) = omega (arith, s.inside) in
      rw (e, pow-suc)

  digits_step : DigitsFrom f j (n + (get_or f j 0 - 48) * 10 ^ (length f - suc j))
  unfolding digits_of
  digits_step = record {
    inside = omega (arith, s.inside);
    start = λ h. low;
    small = rw units (still_small (get_or f j 0 - 48) (10 ^ (length f - suc j)) n (omega arith) s.small);
    said = λ a. rw (drop-cons f j 0 s.inside, le-leb _ _ low, le-leb _ _ high, s.said, units)
        (ap (λ x. Some (pos x)) (place_value a (get_or f j 0 - 48) (10 ^ (length f - suc j)) n));
  }

-- the step as the code takes it, from index i to i - 1, where u is what the next digit counts
pub digits_more : (f : List ℕ) (i n u : ℕ) → 0 < i → u ≡ 10 ^ (length f - i) → DigitsFrom f i n → 48 ≤ get_or f (i - 1) 0 → get_or f (i - 1) 0 ≤ 57
    → DigitsFrom f (i - 1) (n + (get_or f (i - 1) 0 - 48) * u) × (u * 10 ≡ 10 ^ (length f - (i - 1)))
digits_more f zero n u p e s l h = absurd (omega arith)
digits_more f (suc j) n u p e s l h =
    let z : suc j - 1 ≡ j = omega arith in
    rw (e, z) (digits_step f j n s (rw z at l) (rw z at h), sym (units f j n s (rw z at l) (rw z at h)))

-- ---- a byte that is no digit

not_digit : {X : Type 0} (b : ℕ) → 48 ≤ b → b ≤ 57 → is_digit b ≡ false → X
not_digit b l h d =
    let e : is_digit b ≡ true = rw (le-leb _ _ l, le-leb _ _ h) in
    absurd (cc)

both_arms : (t : Bool) {x y r : Option ℤ} → x ≡ r → y ≡ r → cond t x y ≡ r
both_arms true p q = p
both_arms false p q = q

digits_broken : (zs : List ℕ) (n b : ℕ) (ys : List ℕ) → is_digit b ≡ false → digits_of n (zs ++ (b ∷ ys)) ≡ None
unfolding digits_of
digits_broken [] n b ys d = rw d
digits_broken (z ∷ zs) n b ys d = both_arms (is_digit z) (digits_broken zs (n * 10 + (z - 48)) b ys d) refl

zero_then_more : (zs : List ℕ) (b : ℕ) (ys : List ℕ) → zero_then (zs ++ (b ∷ ys)) ≡ None
zero_then_more [] b ys = refl
zero_then_more (z ∷ zs) b ys = refl

plain_broken : (zs : List ℕ) (b : ℕ) (ys : List ℕ) → is_digit b ≡ false → plain_of (zs ++ (b ∷ ys)) ≡ None
unfolding plain_of
plain_broken [] b ys d =
    let n : b ≡ 48 → ⊥ = λ e. not_digit b (omega arith) (omega arith) d in
    rw (ne_eqb _ _ n) (digits_broken [] 0 b ys d)
plain_broken (z ∷ zs) b ys d = both_arms (eqb z 48) (zero_then_more zs b ys) (digits_broken (z ∷ zs) 0 b ys d)

broken_by : (z : ℕ) (q : List ℕ) (b : ℕ) (ys : List ℕ) → is_digit b ≡ false
    → ((is_blanks q ≡ true → signed_of (after_blanks (b ∷ ys)) ≡ None) → signed_of (after_blanks (q ++ (b ∷ ys))) ≡ None)
    → (t : Bool) → is_blank z ≡ t → (cond t (is_blanks q) false ≡ true → signed_of (after_blanks (b ∷ ys)) ≡ None)
    → signed_of (cond t (after_blanks (q ++ (b ∷ ys))) (z ∷ (q ++ (b ∷ ys)))) ≡ None
unfolding signed_of
broken_by z q b ys d ih true e h = ih h
broken_by z q b ys d ih false e h = both_arms (is_minus z) (ap minus (plain_broken q b ys d)) (plain_broken (z ∷ q) b ys d)

-- a field is refused for a byte that is no digit, unless spaces alone stand before it
broken : (q : List ℕ) (b : ℕ) (ys : List ℕ) → is_digit b ≡ false → (is_blanks q ≡ true → signed_of (after_blanks (b ∷ ys)) ≡ None)
    → signed_of (after_blanks (q ++ (b ∷ ys))) ≡ None
unfolding after_blanks is_blanks
broken [] b ys d h = h refl
broken (z ∷ q) b ys d h = broken_by z q b ys d (λ k. broken q b ys d k) (is_blank z) refl h

-- ---- what stands before the digits

blanks_by : (z : ℕ) (q ys : List ℕ) → (is_blanks q ≡ true → after_blanks (q ++ ys) ≡ after_blanks ys)
    → (t : Bool) → cond t (is_blanks q) false ≡ true → cond t (after_blanks (q ++ ys)) (z ∷ (q ++ ys)) ≡ after_blanks ys
blanks_by z q ys ih true h = ih h
blanks_by z q ys ih false h =
    let n : ◌≡◌ {A = ℕ} 0 1 = cc in
    absurd (omega arith)

-- spaces in front are passed over
blanks_passed : (q ys : List ℕ) → is_blanks q ≡ true → after_blanks (q ++ ys) ≡ after_blanks ys
unfolding after_blanks is_blanks
blanks_passed [] ys h = refl
blanks_passed (z ∷ q) ys h = blanks_by z q ys (λ k. blanks_passed q ys k) (is_blank z) h

-- another byte that is no digit, by what stands behind it
first_by : (b : ℕ) (ys : List ℕ) → is_digit b ≡ false → signed_of (after_blanks ys) ≡ None → plain_of ys ≡ None
    → (t : Bool) → signed_of (cond t (after_blanks ys) (b ∷ ys)) ≡ None
unfolding signed_of
first_by b ys d h p true = h
first_by b ys d h p false = both_arms (is_minus b) (ap minus p) (plain_broken [] b ys d)

first_refused : (b : ℕ) (ys : List ℕ) → is_digit b ≡ false → signed_of (after_blanks ys) ≡ None
    → plain_of ys ≡ None → signed_of (after_blanks (b ∷ ys)) ≡ None
unfolding after_blanks
first_refused b ys d h p = first_by b ys d h p (is_blank b)

other_first : (b : ℕ) (ys : List ℕ) → is_digit b ≡ false → (b ≡ 32 → ⊥) → (b ≡ 45 → ⊥) → signed_of (after_blanks (b ∷ ys)) ≡ None
unfolding signed_of after_blanks
other_first b ys d n m = rw (ne_eqb _ _ n, ne_eqb _ _ m) (plain_broken [] b ys d)

blanks_snoc : (q : List ℕ) (b : ℕ) → is_blanks q ≡ true → b ≡ 32 → is_blanks (q ++ (b ∷ [])) ≡ true
unfolding is_blanks
blanks_snoc [] b h e = rw (eq-eqb _ _ e)
blanks_snoc (z ∷ q) b h e = snoc_by (is_blank z) (λ k. blanks_snoc q b k e) h
  where
    snoc_by : (t : Bool) → (is_blanks q ≡ true → is_blanks (q ++ (b ∷ [])) ≡ true)
        → cond t (is_blanks q) false ≡ true → cond t (is_blanks (q ++ (b ∷ []))) false ≡ true
    snoc_by true ih h = ih h
    snoc_by false ih h = h

-- ---- a whole field

pub too_wide : (f : List ℕ) → 6 < length f → number_of f ≡ None
unfolding number_of
too_wide f h = rw (le-leb 1 (length f) (omega arith), lt-leb _ _ h)

refused : (f : List ℕ) → signed_of (after_blanks f) ≡ None → number_of f ≡ None
unfolding number_of
refused f h = both_arms (is_width_of f) h refl
  where
    is_width_of : List ℕ → Bool
    is_width_of f = leb 1 (length f) && leb (length f) 6

pub taken : (f : List ℕ) → 0 < length f → length f ≤ 6 → number_of f ≡ signed_of (after_blanks f)
unfolding number_of
taken f p h = rw (le-leb _ _ p, le-leb _ _ h)

-- the digits are refused, so the field is
tail_refused : (f : List ℕ) (i : ℕ) → i ≤ length f → (0 < i → is_digit (get_or f (i - 1) 0) ≡ false)
    → signed_of (after_blanks (drop i f)) ≡ None → plain_of (drop i f) ≡ None → number_of f ≡ None
tail_refused f zero l d h p = refused f h
tail_refused f (suc j) l d h p =
    let z : suc j - 1 ≡ j = omega arith in
    let b = get_or f j 0 in
    let g : is_digit (get_or f j 0) ≡ false = rw z at (d (omega arith)) in
    refused f (rw (split_at f j 0 l) (broken (take j f) b (drop (suc j) f) g (λ k. first_refused b (drop (suc j) f) g h p)))

nothing : (signed_of (after_blanks []) ≡ None) × (plain_of [] ≡ None)
unfolding signed_of after_blanks plain_of
nothing = (refl, refl)

zero_leads : (x : ℕ) (ys : List ℕ) → plain_of (48 ∷ x ∷ ys) ≡ None
unfolding plain_of
zero_leads x ys = refl

module _ {f : List ℕ} {i n : ℕ} (e : EndsIn f i n) where
  -- no digit at the end
  pub refused_endless : length f ≤ i → number_of f ≡ None
  refused_endless l = tail_refused f i e.digits.inside e.all (rw (drop_of_length-le f l) nothing.0) (rw (drop_of_length-le f l) nothing.1)

  -- a leading zero
  pub refused_zero : i < length f → get_or f i 0 ≡ 48 → (i + 1 ≡ length f → ⊥) → number_of f ≡ None
  refused_zero l z m =
      let k : suc i < length f = omega arith in
      let q : drop i f ≡ 48 ∷ get_or f (suc i) 0 ∷ drop (suc (suc i)) f = drop-cons f i 0 l ∙ rw (z, drop-cons f (suc i) 0 k) in
      let p : plain_of (drop i f) ≡ None = ap plain_of q ∙ zero_leads _ _ in
      tail_refused f i e.digits.inside e.all (ap (λ x. signed_of (after_blanks x)) q ∙ digit_first 48 _ (lit≤ tt) ∙ zero_leads _ _) p

module _ {f : List ℕ} {i n : ℕ} (g : Plain f i n) where
  -- at most six digits
  pub plain_small : n < 1000000
  plain_small =
      let p : 10 ^ (length f - i) ≤ 10 ^ 6 = pow-le-pow_right (lit< tt) {i = length f - i} {j = 6} (omega (arith, g.narrow)) in
      omega (arith, g.ends.digits.small)

  digits_whole : digits_of 0 (get_or f i 0 ∷ drop (suc i) f) ≡ Some (pos n)
  digits_whole =
      let z : 0 * 10 ^ (length f - i) + n ≡ n = omega arith in
      rw (← drop-cons f i 0 g.some) (g.ends.digits.said 0 ∙ ap (λ x. Some (pos x)) z)

  plain_by : (t : Bool) → eqb (get_or f i 0) 48 ≡ t → cond t (zero_then (drop (suc i) f)) (digits_of 0 (get_or f i 0 ∷ drop (suc i) f)) ≡ Some (pos n)
  unfolding digits_of
  plain_by true z =
      let b : get_or f i 0 ≡ 48 = eqb-true _ _ z in
      let q : length f ≤ suc i = omega (arith, g.alone b) in
      rw (drop_of_length-le f q) (rw (b, drop_of_length-le f q) at digits_whole)
  plain_by false z = digits_whole

  -- the digits, as the definition takes them
  plain_said : plain_of (drop i f) ≡ Some (pos n)
  unfolding plain_of
  plain_said = rw (drop-cons f i 0 g.some) (plain_by (eqb (get_or f i 0) 48) refl)

  digits_first : signed_of (after_blanks (drop i f)) ≡ plain_of (drop i f)
  digits_first = rw (drop-cons f i 0 g.some) (digit_first (get_or f i 0) (drop (suc i) f) (g.ends.digits.start g.some))

  taken_from : number_of f ≡ signed_of (after_blanks f)
  taken_from = taken f (omega (arith, g.some)) g.narrow

  -- spaces before them, or nothing
  pub taken_plain : is_blanks (take i f) ≡ true → number_of f ≡ Some (pos n)
  taken_plain b =
      taken_from
      ∙ ap (λ x. signed_of (after_blanks x)) (sym (take-append-drop i f))
      ∙ ap signed_of (blanks_passed (take i f) (drop i f) b)
      ∙ digits_first
      ∙ plain_said

  -- nothing before them
  pub taken_whole : i ≡ 0 → number_of f ≡ Some (pos n)
  unfolding is_blanks
  taken_whole z = taken_plain (rw z refl)

  module _ (p : 0 < i) where
    -- the byte before them, at index i - 1
    split : f ≡ take (i - 1) f ++ (get_or f (i - 1) 0 ∷ drop i f)
    split =
        let z : suc (i - 1) ≡ i = omega arith in
        split_at f (i - 1) 0 (omega (arith, g.some)) ∙ rw z

    -- "-" behind spaces
    pub taken_minus : get_or f (i - 1) 0 ≡ 45 → is_blanks (take (i - 1) f) ≡ true → number_of f ≡ minus (Some (pos n))
    taken_minus m b =
        taken_from
        ∙ ap (λ x. signed_of (after_blanks x)) split
        ∙ ap signed_of (blanks_passed (take (i - 1) f) (get_or f (i - 1) 0 ∷ drop i f) b)
        ∙ rw m (minus_first (drop i f))
        ∙ ap minus plain_said

    refused_before : (is_blanks (take (i - 1) f) ≡ true → signed_of (after_blanks (get_or f (i - 1) 0 ∷ drop i f)) ≡ None) → number_of f ≡ None
    refused_before h = refused f (ap (λ x. signed_of (after_blanks x)) split ∙ broken (take (i - 1) f) (get_or f (i - 1) 0) (drop i f) (g.ends.all p) h)

    -- "-" behind something else than spaces
    pub refused_minus : is_blanks (take (i - 1) f) ≡ false → number_of f ≡ None
    refused_minus b = refused_before (λ t. absurd (cc))

    no_space : is_blanks (take i f) ≡ false → is_blanks (take (i - 1) f) ≡ true → get_or f (i - 1) 0 ≡ 32 → ⊥
    no_space b t s =
        let y : suc (i - 1) ≡ i = omega arith in
        let q : take i f ≡ take (i - 1) f ++ (get_or f (i - 1) 0 ∷ []) = rw y at (take-suc f (i - 1) 0 (omega (arith, g.some))) in
        let k : is_blanks (take i f) ≡ true = ap is_blanks q ∙ blanks_snoc (take (i - 1) f) (get_or f (i - 1) 0) t s in
        cc

    -- neither spaces nor "-"
    pub refused_other : (get_or f (i - 1) 0 ≡ 45 → ⊥) → is_blanks (take i f) ≡ false → number_of f ≡ None
    refused_other m b = refused_before (λ t. other_first (get_or f (i - 1) 0) (drop i f) (g.ends.all p) (no_space b t) m)

-- ---- the code's tests and sums

-- whether the first digit, b at index i, is a leading zero
module _ (b i n : ℕ) where
  pub leads : eqb b 48 && not (eqb (i + 1) n) ≡ true → (b ≡ 48) × (i + 1 ≡ n → ⊥)
  leads t =
      let d = both (eqb b 48) (not (eqb (i + 1) n)) t in
      (eqb-true _ _ d.0, eqb-false _ _ (not-true _ d.1))

  pub leads_not : eqb b 48 && not (eqb (i + 1) n) ≡ false → b ≡ 48 → i + 1 ≡ n
  leads_not t e = eqb-true _ _ (not-false _ (rw (eq-eqb _ _ e) at t))

-- "-0"
pub minus_none : (n : ℕ) → n ≡ 0 → minus (Some (pos n)) ≡ None
minus_none n e = rw e
