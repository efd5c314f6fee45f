-- The value that a field says, spelled in as many columns, is the field; and the width holds that value. Each step of the definition
-- that took a byte says what that byte was. Assumes nothing.
use mathlib.Core.Bool.{Bool, true, false, cond}
use mathlib.Core.List.{List, [], ◌∷◌, ◌++◌, append-nil}
use mathlib.Core.Path.{◌≡◌, refl, sym, ap, ◌∙◌}
use Prim.Native.Nat.{ℕ, zero, suc, ◌+◌, ◌-◌, ◌*◌, ◌/◌, ◌%◌, ◌^◌, ◌≤◌, ◌<◌}
use native.Mathlib.Nat.{add-zero, pow-suc, mul-le-mul_right, mul_assoc, mul_comm}
use native.Mathlib.Numerals.{add-one}
use native.Mathlib.Omega.{arith}
use lib.Dec.{leb, eqb, lit<}
use lib.IntN.{ℤ, pos, negsuc}
use lib.ListN.{length, length-append}
use borrow.Author.Tests.{eqb-true, eqb-false, le-leb, lt-leb, leb-true}
use Rattle.std.specs.Prelude.{Option, Some, None}
use Rattle.fields.specs.Number.{is_digit, after_blanks, zero_then, digits_of, plain_of, minus, signed_of, is_width, number_of, holds}
use Rattle.fields.specs.Spelling.{last_of, rest_of, columns, left_of, spell}
use Rattle.fields.specs.declared.Left.TheVariants.{Blanks, Minus, Digits}
use Rattle.fields.proofs.Columns.{columns_length, columns_suc, blanks_front}
use Rattle.fields.proofs.Places.{both}
use Rattle.fields.proofs.Range.{InRange, range_wider, range_holds}

value_is : {u v : ℤ} → Some u ≡ Some v → u ≡ v
value_is e = cc

pub digit_range : (b : ℕ) → is_digit b ≡ true → (48 ≤ b) × (b ≤ 57)
digit_range b h =
    let t = both (leb 48 b) (leb b 57) h in
    (leb-true _ _ t.0, leb-true _ _ t.1)

-- ---- the digits

-- digits say a natural number, below what as many digits can say
below : (a d k n : ℕ) → d ≤ 9 → n < (a * 10 + d + 1) * 10 ^ k → n < (a + 1) * 10 ^ suc k
below a d k n h l =
    let m : a * 10 + d + 1 ≤ (a + 1) * 10 = omega arith in
    let e : (a + 1) * 10 * 10 ^ k ≡ (a + 1) * 10 ^ suc k = rw (pow-suc, mul_assoc, mul_comm 10 (10 ^ k)) in
    omega (arith, mul-le-mul_right (10 ^ k) m, e)

abbrev Said : ℕ → List ℕ → ℤ → Type 0
Said a ds v = (n : ℕ) × (v ≡ pos n) × (n < (a + 1) * 10 ^ length ds)

said_by : (b : ℕ) (ds : List ℕ) (a : ℕ) (v : ℤ) → ((a' : ℕ) → digits_of a' ds ≡ Some v → Said a' ds v)
    → (t : Bool) → is_digit b ≡ t → cond t (digits_of (a * 10 + (b - 48)) ds) None ≡ Some v → Said a (b ∷ ds) v
said_by b ds a v ih false t e = absurd (cc)
said_by b ds a v ih true t e =
    let d = digit_range b t in
    let s = ih (a * 10 + (b - 48)) e in
    (s.0, s.1, below a (b - 48) (length ds) s.0 (omega (arith, d.1)) s.2)

digits_said : (ds : List ℕ) (a : ℕ) (v : ℤ) → digits_of a ds ≡ Some v → Said a ds v
unfolding digits_of
digits_said [] a v e = (a, sym (value_is e), omega arith)
digits_said (b ∷ ds) a v e = said_by b ds a v (λ a' q. digits_said ds a' v q) (is_digit b) refl e

-- one digit b behind a
appended : (m : Bool) (a b : ℕ) → 48 ≤ b → b ≤ 57 → 0 < a → (rest_of (Digits (a * 10 + (b - 48)) m) ≡ Digits a m) × (last_of (Digits (a * 10 + (b - 48)) m) ≡ b)
appended m a b l h p =
    let t : 10 ≤ a * 10 + (b - 48) = omega arith in
    let q : (a * 10 + (b - 48)) / 10 ≡ a = omega arith in
    let r : 48 + (a * 10 + (b - 48)) % 10 ≡ b = omega arith in
    (rw (le-leb _ _ t, q), r)

-- the digits behind a, which is not 0
more_by : (m : Bool) (b : ℕ) (ds : List ℕ) (a n k : ℕ) → 0 < a
    → ((a' k' : ℕ) → 0 < a' → digits_of a' ds ≡ Some (pos n) → columns (k' + length ds) (Digits n m) ≡ columns k' (Digits a' m) ++ ds)
    → (t : Bool) → is_digit b ≡ t → cond t (digits_of (a * 10 + (b - 48)) ds) None ≡ Some (pos n)
    → columns (k + suc (length ds)) (Digits n m) ≡ columns k (Digits a m) ++ (b ∷ ds)
more_by m b ds a n k p ih false t e = absurd (cc)
more_by m b ds a n k p ih true t e =
    let d = digit_range b t in
    let q = appended m a b d.0 d.1 p in
    let s : k + suc (length ds) ≡ suc k + length ds = omega arith in
    rw s (ih (a * 10 + (b - 48)) (suc k) (omega arith) e ∙ columns_suc k (Digits (a * 10 + (b - 48)) m) ds ∙ rw (q.0, q.1))

more : (m : Bool) (ds : List ℕ) (a n k : ℕ) → 0 < a → digits_of a ds ≡ Some (pos n) → columns (k + length ds) (Digits n m) ≡ columns k (Digits a m) ++ ds
unfolding digits_of
more m [] a n k p e =
    let z : a ≡ n = cc in
    rw (add-zero, append-nil, z)
more m (b ∷ ds) a n k p e = more_by m b ds a n k p (λ a' k' p' e'. more m ds a' n k' p' e') (is_digit b) refl e

-- all the digits, the first of which is not 0
first_by : (m : Bool) (b : ℕ) (ds : List ℕ) (n k : ℕ) → (b ≡ 48 → ⊥) → (t : Bool)
    → is_digit b ≡ t → cond t (digits_of (0 * 10 + (b - 48)) ds) None ≡ Some (pos n)
    → columns (k + suc (length ds)) (Digits n m) ≡ columns k (cond m Minus Blanks) ++ (b ∷ ds)
first_by m b ds n k z false t e = absurd (cc)
first_by m b ds n k z true t e =
    let d = digit_range b t in
    let l = d.0 in
    let h = d.1 in
    let a : 0 * 10 + (b - 48) ≡ b - 48 = omega arith in
    let s : k + suc (length ds) ≡ suc k + length ds = omega arith in
    let g : b - 48 < 10 = omega arith in
    let q : 48 + (b - 48) % 10 ≡ b = omega arith in
    rw s (more m ds (b - 48) n (suc k) (omega arith) (rw a at e) ∙ columns_suc k (Digits (b - 48) m) ds ∙ rw (lt-leb _ _ g, q))

first : (m : Bool) (b : ℕ) (ds : List ℕ) (n k : ℕ) → (b ≡ 48 → ⊥) → digits_of 0 (b ∷ ds) ≡ Some (pos n)
    → columns (k + suc (length ds)) (Digits n m) ≡ columns k (cond m Minus Blanks) ++ (b ∷ ds)
unfolding digits_of
first m b ds n k z e = first_by m b ds n k z (is_digit b) refl e

-- ---- a number without its sign

-- bs says n, and spells it behind a sign or none; a sign only where n is not 0
record Plain (bs : List ℕ) (n : ℕ) : Type 0 where
  pub small : n < 10 ^ length bs
  pub spelled : (m : Bool) → (m ≡ true → 0 < n) → (k : ℕ) → columns (k + length bs) (Digits n m) ≡ columns k (cond m Minus Blanks) ++ bs

zero_spelled : (m : Bool) → (m ≡ true → 0 < 0) → (k : ℕ) → columns (k + 1) (Digits 0 m) ≡ columns k (cond m Minus Blanks) ++ (48 ∷ [])
zero_spelled true h k = absurd (omega (arith, h refl))
zero_spelled false h k = rw (add-one, ← append-nil (columns (suc k) (Digits 0 false))) (columns_suc k (Digits 0 false) [])

plain_by : (b : ℕ) (bs : List ℕ) (v : ℤ) (t : Bool) → eqb b 48 ≡ t
    → cond t (zero_then bs) (digits_of 0 (b ∷ bs)) ≡ Some v → (n : ℕ) × (v ≡ pos n) × Plain (b ∷ bs) n
plain_by b [] v true t e = (0, sym (value_is e), record { small = lit< tt; spelled = rw (eqb-true b 48 t) zero_spelled })
plain_by b (c ∷ bs) v true t e = absurd (cc)
plain_by b bs v false t e =
    let s = digits_said (b ∷ bs) 0 v e in
    let q : digits_of 0 (b ∷ bs) ≡ Some (pos s.0) = e ∙ ap Some s.1 in
    (s.0, s.1, record { small = omega (arith, s.2); spelled = λ m h k. first m b bs s.0 k (eqb-false _ _ t) q })

plain : (bs : List ℕ) (v : ℤ) → plain_of bs ≡ Some v → (n : ℕ) × (v ≡ pos n) × Plain bs n
unfolding plain_of
plain [] v e = absurd (cc)
plain (b ∷ bs) v e = plain_by b bs v (eqb b 48) refl e

-- so it is a natural number of no more digits than there are bytes
pub plain_size : (bs : List ℕ) (v : ℤ) → plain_of bs ≡ Some v → (n : ℕ) × (v ≡ pos n) × (n < 10 ^ length bs)
plain_size bs v e =
    let p = plain bs v e in
    (p.0, p.1, p.2.small)

-- ---- with its sign

record Signed (r : List ℕ) (v : ℤ) : Type 0 where
  pub inside : InRange (length r) v
  pub spelled : (k : ℕ) → columns (k + length r) (left_of v) ≡ columns k Blanks ++ r

-- without a sign
unsigned : (r : List ℕ) (v : ℤ) → plain_of r ≡ Some v → Signed r v
unsigned r v e =
    let p = plain r v e in
    rw p.1 (record { inside = p.2.small; spelled = p.2.spelled false (λ z. let y : ◌≡◌ {A = ℕ} 0 1 = cc in absurd (omega arith)) })

-- behind a minus sign
minus_spelled : (bs : List ℕ) (n : ℕ) → Plain bs (suc n) → (k : ℕ) → columns (k + suc (length bs)) (Digits (suc n) true) ≡ columns k Blanks ++ (45 ∷ bs)
minus_spelled bs n g k =
    let s : k + suc (length bs) ≡ suc k + length bs = omega arith in
    rw s (g.spelled true (λ z. omega arith) (suc k) ∙ columns_suc k Minus bs)

behind_by : (bs : List ℕ) (v : ℤ) (x : Option ℤ) → plain_of bs ≡ x → minus x ≡ Some v → Signed (45 ∷ bs) v
behind_by bs v None d e = absurd (cc)
behind_by bs v (Some (negsuc n)) d e = absurd (cc)
behind_by bs v (Some (pos zero)) d e = absurd (cc)
behind_by bs v (Some (pos (suc n))) d e =
    let p = plain bs (pos (suc n)) d in
    let i : p.0 ≡ suc n = cc p.1 in
    let g : Plain bs (suc n) = rw i at p.2 in
    let q : negsuc n ≡ v = value_is e in
    let w : suc (length bs) - 1 ≡ length bs = omega arith in
    rw (← q) (record { inside = rw w g.small; spelled = λ k. minus_spelled bs n g k })

tail_by : (b : ℕ) (bs : List ℕ) (v : ℤ) (t : Bool) → eqb b 45 ≡ t → cond t (minus (plain_of bs)) (plain_of (b ∷ bs)) ≡ Some v → Signed (b ∷ bs) v
tail_by b bs v true t e = rw (eqb-true b 45 t) (behind_by bs v (plain_of bs) refl e)
tail_by b bs v false t e = unsigned (b ∷ bs) v e

tail : (r : List ℕ) (v : ℤ) → signed_of r ≡ Some v → Signed r v
unfolding signed_of
tail [] v e = absurd (cc)
tail (b ∷ bs) v e = tail_by b bs v (eqb b 45) refl e

-- ---- behind the spaces

split_by : (b : ℕ) (f : List ℕ) → (k : ℕ) × (f ≡ columns k Blanks ++ after_blanks f) → (t : Bool)
    → eqb b 32 ≡ t → (k : ℕ) × (b ∷ f ≡ columns k Blanks ++ cond t (after_blanks f) (b ∷ f))
unfolding columns
split_by b f s true t =
    let q : b ≡ 32 = eqb-true _ _ t in
    (suc s.0, rw q (ap (◌∷◌ 32) s.1 ∙ blanks_front s.0 (after_blanks f)))
split_by b f s false t = (0, refl)

split : (f : List ℕ) → (k : ℕ) × (f ≡ columns k Blanks ++ after_blanks f)
unfolding after_blanks columns
split [] = (0, refl)
split (b ∷ f) = split_by b f (split f) (eqb b 32) refl

record Read (f : List ℕ) (v : ℤ) : Type 0 where
  pub held : holds (length f) v ≡ true
  pub spelled : spell (length f) v ≡ f

read_by : (f : List ℕ) (v : ℤ) (t : Bool) → is_width (length f) ≡ t → cond t (signed_of (after_blanks f)) None ≡ Some v → Read f v
unfolding spell
read_by f v true t e =
    let s = split f in
    let g = tail (after_blanks f) v e in
    let l : length f ≡ s.0 + length (after_blanks f) = ap length s.1 ∙ length-append (columns s.0 Blanks) (after_blanks f) ∙ rw columns_length in
    record {
      held = range_holds (length f) v t (range_wider (length (after_blanks f)) (length f) v (omega arith) g.inside);
      spelled = ap (λ w. columns w (left_of v)) l ∙ g.spelled s.0 ∙ sym s.1;
    }
read_by f v false t e = absurd (cc)

read : (f : List ℕ) (v : ℤ) → number_of f ≡ Some v → Read f v
unfolding number_of
read f v e = read_by f v (is_width (length f)) refl e

pub spelled_read : (f : List ℕ) (v : ℤ) → number_of f ≡ Some v → spell (length f) v ≡ f
spelled_read f v e = (read f v e).spelled

pub holds_read : (f : List ℕ) (v : ℤ) → number_of f ≡ Some v → holds (length f) v ≡ true
holds_read f v e = (read f v e).held
