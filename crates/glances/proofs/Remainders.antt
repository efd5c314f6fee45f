-- The remainders by 16 of a number field's bytes, at the powers of ten: a space, 32, leaves 0, and a digit, 48 and on, leaves itself, so a
-- field that says a number from 0 on has it as their sum. Assumes nothing.
use mathlib.Core.Bool.{Bool, true, false, cond}
use mathlib.Core.List.{List, [], ◌∷◌, ◌++◌}
use mathlib.Core.Path.{◌≡◌, refl, ◌∙◌}
use Prim.Native.Nat.{ℕ, zero, suc, ◌+◌, ◌*◌, ◌/◌, ◌%◌, ◌^◌, ◌≤◌, ◌<◌}
use native.Mathlib.Nat.{pow-suc}
use native.Mathlib.Omega.{arith}
use lib.Dec.{leb, lit≤}
use lib.IntN.{pos}
use lib.ListN.{length, get_or}
use borrow.Author.Tests.{leb-true, leb-false}
use Rattle.std.specs.Prelude.{Some}
use Rattle.glances.specs.Glimpse.{remainders, remainders_at}
use Rattle.fields.specs.Number.{number_at}
use Rattle.fields.specs.Place.{is_inside, bytes_at}
use Rattle.fields.specs.Spelling.{rest_of, columns, spell}
use Rattle.fields.specs.declared.Left.TheVariants.{Blanks, Digits}
use Rattle.glances.proofs.AtGlance.{entries, entries_are}
use Rattle.fields.proofs.FieldLaws.{number_says}
use Rattle.fields.proofs.Places.{bytes_length}
use Rattle.fields.proofs.Range.{holds_size}

last_remainder : (n : ℕ) (f : List ℕ) (b : ℕ) → remainders n (f ++ (b ∷ [])) ≡ remainders n f * 10 + b % 16
unfolding remainders
last_remainder n [] b = refl
last_remainder n (x ∷ f) b = last_remainder (n * 10 + x % 16) f b

-- ---- of a spelling

blanks_sum : (w : ℕ) → remainders 0 (columns w Blanks) ≡ 0
unfolding columns remainders
blanks_sum zero = refl
blanks_sum (suc w) = last_remainder 0 (columns w Blanks) 32 ∙ rw (blanks_sum w)

-- by whether n has more than one digit, given the same for fewer columns
digits_by : (w n : ℕ) → n < 10 ^ suc w → ((k : ℕ) → k < 10 ^ w → remainders 0 (columns w (Digits k false)) ≡ k)
    → (t : Bool) → leb 10 n ≡ t → remainders 0 (columns w (cond t (Digits (n / 10) false) Blanks)) * 10 + (48 + n % 10) % 16 ≡ n
digits_by w n h ih true e =
    let l : 10 ≤ n = leb-true _ _ e in
    let q : n < 10 ^ w * 10 = rw pow-suc at h in
    let k : n / 10 < 10 ^ w = omega arith in
    rw (ih (n / 10) k) (omega arith)
digits_by w n h ih false e =
    let l : n < 10 = leb-false _ _ e in
    rw (blanks_sum w) (omega arith)

digits_sum : (w n : ℕ) → n < 10 ^ w → remainders 0 (columns w (Digits n false)) ≡ n
unfolding columns remainders
digits_sum zero n h = omega arith
digits_sum (suc w) n h = last_remainder 0 (columns w (rest_of (Digits n false))) (48 + n % 10) ∙ digits_by w n h (digits_sum w) (leb 10 n) refl

-- ---- of a field

-- one byte after the other, as the code adds five up
pub five_sum : (f : List ℕ) → length f ≡ 5
    → (get_or f 0 0 % 16) * 10000 + (get_or f 1 0 % 16) * 1000 + (get_or f 2 0 % 16) * 100 + (get_or f 3 0 % 16) * 10 + get_or f 4 0 % 16 ≡ remainders 0 f
unfolding remainders entries
five_sum f w = rw (← entries_are f 0 5 (omega arith)) (omega arith)

module _ (s : List ℕ) (c w : ℕ) where
  -- the field's bytes f, where it lies within s, and nothing where it does not
  pub part_sum : is_inside s c w ≡ true → {f : List ℕ} → f ≡ bytes_at s c w → remainders 0 f ≡ remainders_at s c w
  unfolding remainders_at
  part_sum i e = rw (e, i)

  pub no_sum : is_inside s c w ≡ false → 0 ≡ remainders_at s c w
  unfolding remainders_at
  no_sum i = rw i

  -- A FIELD THAT SAYS A NUMBER FROM 0 ON HAS IT AS ITS SUM
  pub sum_said : (n : ℕ) → number_at s c w ≡ Some (pos n) → remainders_at s c w ≡ n
  unfolding remainders_at spell
  sum_said n e =
      let h = number_says s c w (pos n) e in
      rw (h.there, h.spelled) (digits_sum w n (holds_size w n h.held))

-- five bytes come to no more than 15 at each power of ten
five_most : (f : List ℕ) → length f ≡ 5 → remainders 0 f ≤ 166665
five_most f w = rw (← five_sum f w) (omega arith)

pub five_small : (s : List ℕ) (c : ℕ) → remainders_at s c 5 ≤ 166665
unfolding remainders_at
five_small s c = by (is_inside s c 5) refl
  where
    by : (t : Bool) → is_inside s c 5 ≡ t → cond t (remainders 0 (bytes_at s c 5)) 0 ≤ 166665
    by true i = five_most (bytes_at s c 5) (bytes_length s c 5 i)
    by false i = lit≤ tt
