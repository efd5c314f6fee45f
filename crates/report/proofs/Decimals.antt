-- The fewest digits that hold a number are its decimal text: the last one is the remainder by 10, and the quotient has one digit fewer.
-- Assumes nothing.
use mathlib.Core.Path.{◌≡◌, ◌∙◌, ap, subst, subst⁻¹}
use mathlib.Core.List.{[], ◌∷◌, ◌++◌}
use Prim.Native.Nat.{ℕ, zero, suc, ◌+◌, ◌-◌, ◌/◌, ◌%◌, ◌^◌, ◌≤◌, ◌<◌}
use native.Mathlib.Nat.{pow-succ'}
use native.Mathlib.Omega.{arith}
use borrow.Author.Tests.{lt-ltb, le-ltb}
use Rattle.io.specs.Digits.{hex_digit_ascii, last_digits, IsDigitCount}
use Rattle.report.specs.Texts.{digits_to, decimal}

glyph_digit : (d : ℕ) → d < 10 → hex_digit_ascii d ≡ 48 + d
glyph_digit d h = simp (lt-ltb d 10 h)

some_power : (k : ℕ) → 1 ≤ 10 ^ k
some_power zero = omega arith
some_power (suc k) = omega (arith, pow-succ' 10 k, some_power k)

-- with one digit fewer
module _ (k n : ℕ) (f : IsDigitCount 10 1 n (suc (suc k))) where
  power : 10 ^ suc k ≤ n
  power = let j : suc (suc k) - 1 ≡ suc k = omega arith in subst (λ i. 10 ^ i ≤ n) j (f.2 (omega arith))

  ten : 10 ≤ n
  ten = omega (arith, power, pow-succ' 10 k, some_power k)

  rest : IsDigitCount 10 1 (n / 10) (suc k)
  rest =
      let p = power in
      let j : suc k - 1 ≡ k = omega arith in
      let q : 10 ^ k ≤ n / 10 = omega (arith, pow-succ' 10 k) in
      (omega arith, omega (arith, f.1, pow-succ' 10 (suc k)), λ x. subst⁻¹ (λ i. 10 ^ i ≤ n / 10) j q)

fewest : (w k n : ℕ) → k ≤ w → IsDigitCount 10 1 n k → last_digits 10 k n ≡ digits_to w n
unfolding digits_to
fewest w zero n h f = absurd (omega arith)
fewest zero (suc k) n h f = absurd (omega arith)
fewest (suc w) (suc zero) n h f =
    let s : n < 10 = omega (arith, f.1, pow-succ' 10 0) in
    let r : n % 10 ≡ n = omega arith in
    rw (r, lt-ltb n 10 s)
fewest (suc w) (suc (suc k)) n h f =
    let g = glyph_digit (n % 10) (omega arith) in
    let i = fewest w (suc k) (n / 10) (omega arith) (rest k n f) in
    ap (λ l. l ++ (hex_digit_ascii (n % 10) ∷ [])) i ∙ rw (g, le-ltb n 10 (ten k n f))

-- a number of at most 20 digits
pub is_decimal : (k n : ℕ) → k ≤ 20 → IsDigitCount 10 1 n k → last_digits 10 k n ≡ decimal n
unfolding decimal
is_decimal k n h f = fewest 20 k n h f

-- a number below 10^w has at most w digits
pub few_digits : (w k n : ℕ) → IsDigitCount 10 1 n k → n < 10 ^ suc w → k ≤ suc w
few_digits w zero n f h = omega arith
few_digits w (suc zero) n f h = omega arith
few_digits zero (suc (suc k)) n f h = absurd (omega (arith, ten k n f, pow-succ' 10 0))
few_digits (suc w) (suc (suc k)) n f h = omega (arith, few_digits w (suc k) (n / 10) (rest k n f) (omega (arith, pow-succ' 10 (suc w))))
