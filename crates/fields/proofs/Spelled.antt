-- A value that a width holds, spelled in it, is read as that value. The digits are read one by one in the order in which they were
-- split off, and the spaces and the sign before them are passed over. Assumes nothing.
use mathlib.Core.Bool.{Bool, true, false, cond}
use mathlib.Core.List.{List, [], ◌∷◌, ◌++◌, append_assoc, append-nil}
use mathlib.Core.Path.{◌≡◌, refl, ap, ◌∙◌}
use Prim.Native.Nat.{ℕ, zero, suc, ◌+◌, ◌-◌, ◌*◌, ◌/◌, ◌%◌, ◌^◌, ◌≤◌, ◌<◌}
use native.Mathlib.Nat.{pow-suc}
use native.Mathlib.Omega.{arith}
use lib.Dec.{leb}
use lib.IntN.{ℤ, pos, negsuc}
use borrow.Author.Tests.{ne_eqb, le-leb, leb-true, leb-false}
use Rattle.std.specs.Prelude.{Option, Some}
use Rattle.fields.specs.Number.{after_blanks, digits_of, plain_of, minus, signed_of, number_of, holds}
use Rattle.fields.specs.Spelling.{columns, spell}
use Rattle.fields.specs.declared.Left.TheVariants.{Blanks, Minus, Digits}
use Rattle.fields.proofs.Columns.{columns_suc, spell_length}
use Rattle.fields.proofs.Range.{holds_width, holds_size, holds_minus}

-- what a field says, whatever its width
abbrev said : List ℕ → Option ℤ
said f = signed_of (after_blanks f)

past_blanks : (w : ℕ) (ys : List ℕ) → after_blanks (columns w Blanks ++ ys) ≡ after_blanks ys
unfolding columns after_blanks
past_blanks zero ys = refl
past_blanks (suc w) ys = rw append_assoc (past_blanks w (32 ∷ ys))

-- a digit d before ys
module _ (d : ℕ) (small : d < 10) (ys : List ℕ) where
  digit_read : (n : ℕ) → digits_of n ((48 + d) ∷ ys) ≡ digits_of (n * 10 + d) ys
  unfolding digits_of
  digit_read n =
      let a : 48 ≤ 48 + d = omega arith in
      let b : 48 + d ≤ 57 = omega arith in
      let e : 48 + d - 48 ≡ d = omega arith in
      rw (le-leb _ _ a, le-leb _ _ b, e)

  -- a first digit that is not 0
  digit_leads : 0 < d → plain_of ((48 + d) ∷ ys) ≡ digits_of d ys
  unfolding plain_of
  digit_leads h =
      let n : 48 + d ≡ 48 → ⊥ = λ q. omega arith in
      let z : 0 * 10 + d ≡ d = omega arith in
      rw (ne_eqb _ _ n) (digit_read 0 ∙ rw z)

-- a digit is no space and no sign
pub digit_first : (b : ℕ) (ys : List ℕ) → 48 ≤ b → signed_of (after_blanks (b ∷ ys)) ≡ plain_of (b ∷ ys)
unfolding signed_of after_blanks
digit_first b ys l =
    let n : b ≡ 32 → ⊥ = λ e. omega arith in
    let m : b ≡ 45 → ⊥ = λ e. omega arith in
    rw (ne_eqb _ _ n, ne_eqb _ _ m)

pub minus_first : (ys : List ℕ) → signed_of (after_blanks (45 ∷ ys)) ≡ minus (plain_of ys)
unfolding signed_of after_blanks
minus_first ys = refl

-- a number with its sign, where m says whether it has one, and how many columns it takes with e digits
abbrev pub signed : Bool → Option ℤ → Option ℤ
signed m r = cond m (minus r) r

abbrev wide : Bool → ℕ → ℕ
wide m e = cond m (suc e) e

wide_suc : (m : Bool) (e : ℕ) → wide m (suc e) ≡ suc (wide m e)
wide_suc true e = refl
wide_suc false e = refl

-- before the first digit
front : (m : Bool) (e d : ℕ) → 0 < d → d < 10 → (ys : List ℕ) → said (columns (wide m e) (cond m Minus Blanks) ++ ((48 + d) ∷ ys)) ≡ signed m (digits_of d ys)
front false e d p s ys = rw (past_blanks e ((48 + d) ∷ ys)) (digit_first (48 + d) ys (omega arith) ∙ digit_leads d s ys p)
front true e d p s ys =
    rw (columns_suc e Minus ((48 + d) ∷ ys), past_blanks e (45 ∷ (48 + d) ∷ ys)) (minus_first ((48 + d) ∷ ys) ∙ ap minus (digit_leads d s ys p))

-- the digits of n, then ys: by whether it has more than one, given the same for fewer columns
spelled_by : (m : Bool) (e n : ℕ) → 0 < n → n < 10 ^ suc e → (ys : List ℕ)
    → ((k : ℕ) → 0 < k → k < 10 ^ e → (zs : List ℕ) → said (columns (wide m e) (Digits k m) ++ zs) ≡ signed m (digits_of k zs))
    → (b : Bool) → leb 10 n ≡ b
    → said (columns (wide m e) (cond b (Digits (n / 10) m) (cond m Minus Blanks)) ++ ((48 + n % 10) ∷ ys)) ≡ signed m (digits_of n ys)
spelled_by m e n p h ys ih true t =
    let l : 10 ≤ n = leb-true _ _ t in
    let r : n / 10 * 10 + n % 10 ≡ n = omega arith in
    let q : n < 10 ^ e * 10 = rw pow-suc at h in
    let z : digits_of (n / 10) ((48 + n % 10) ∷ ys) ≡ digits_of n ys = digit_read (n % 10) (omega arith) ys (n / 10) ∙ ap (λ x. digits_of x ys) r in
    ih (n / 10) (omega arith) (omega arith) ((48 + n % 10) ∷ ys) ∙ ap (signed m) z
spelled_by m e n p h ys ih false t =
    let l : n < 10 = leb-false _ _ t in
    let r : n % 10 ≡ n = omega arith in
    rw r (front m e n p l ys)

spelled : (m : Bool) (e n : ℕ) → 0 < n → n < 10 ^ e → (ys : List ℕ) → said (columns (wide m e) (Digits n m) ++ ys) ≡ signed m (digits_of n ys)
spelled m zero n p h ys = absurd (omega arith)
spelled m (suc e) n p h ys =
    rw (wide_suc m e, columns_suc (wide m e) (Digits n m) ys)
    (spelled_by m e n p h ys (λ k a b zs. spelled m e k a b zs) (leb 10 n) refl)

-- with nothing behind them
spelled_whole : (m : Bool) (e n : ℕ) → 0 < n → n < 10 ^ e → said (columns (wide m e) (Digits n m)) ≡ signed m (Some (pos n))
unfolding digits_of
spelled_whole m e n p h = rw (← append-nil (columns (wide m e) (Digits n m))) (spelled m e n p h [])

zero_read : (w : ℕ) → said (columns (suc w) (Digits 0 false)) ≡ Some (pos 0)
unfolding columns after_blanks signed_of plain_of
zero_read w = ap signed_of (past_blanks w (48 ∷ []))

said_spelled : (w : ℕ) (v : ℤ) → holds (suc w) v ≡ true → said (spell (suc w) v) ≡ Some v
unfolding spell
said_spelled w (pos zero) h = zero_read w
said_spelled w (pos (suc n)) h = spelled_whole false (suc w) (suc n) (omega arith) (holds_size (suc w) (suc n) h)
said_spelled w (negsuc n) h =
    let e : suc w - 1 ≡ w = omega arith in
    spelled_whole true w (suc n) (omega arith) (rw e at (holds_minus (suc w) n h))

pub read_spelled : (w : ℕ) (v : ℤ) → holds w v ≡ true → number_of (spell w v) ≡ Some v
unfolding number_of
read_spelled zero v h = absurd (omega (arith, (holds_width zero v h).0))
read_spelled (suc w) v h =
    let b = holds_width (suc w) v h in
    rw (spell_length (suc w) v, le-leb 1 (suc w) b.0, le-leb (suc w) 6 b.1) (said_spelled w v h)
