-- A record of a file, and a number of a record, by the bytes of the file where they stand. Assumes nothing.
use mathlib.Core.Bool.{Bool, true, false, cond}
use mathlib.Core.List.{List, [], ◌∷◌}
use mathlib.Core.Path.{◌≡◌, refl, ◌∙◌}
use Prim.Native.Nat.{ℕ, zero, suc, ◌+◌, ◌-◌, ◌*◌, ◌/◌, ◌≤◌, ◌<◌}
use native.Mathlib.Omega.{arith}
use lib.IntN.{ℤ, pos}
use lib.ListN.{length, take, drop, length-drop}
use lib.Seq.{take-nil, drop-nil, take-take, drop-drop, length-take-le}
use borrow.Author.Tests.{le-leb, lt-leb}
use Rattle.fields.specs.Answer.{value_of}
use Rattle.fields.specs.Number.{number_of, number_at}
use Rattle.fields.specs.Place.{is_inside, bytes_at}
use Rattle.std.specs.Prelude.{Option, None}
use Rattle.fields.proofs.Places.{inside_none, inside_short, inside_fits}
use Rattle.records.specs.View.{record_of, number_in}

-- ---- there is no such record, or no such column

module _ (file : List ℕ) (k : ℕ) where
  pub record_none : k ≡ 0 → record_of file k ≡ []
  unfolding record_of
  record_none e = rw (lt-leb 1 k (omega arith))

  pub record_past : length file / 74 < k → record_of file k ≡ []
  unfolding record_of
  record_past l =
      let p : 1 ≤ k = omega arith in
      rw (le-leb 1 k p, lt-leb _ _ l)

-- no bytes, no number
empty_by : (t : Bool) → ◌≡◌ {A = Option ℤ} (cond t None None) None
empty_by true = refl
empty_by false = refl

empty_refused : (c w : ℕ) → number_at [] c w ≡ None
unfolding number_at bytes_at number_of
empty_refused c w = rw (drop-nil, take-nil) (empty_by (is_inside [] c w))

module _ (file : List ℕ) (k c w : ℕ) where
  pub number_none : record_of file k ≡ [] → number_in file k c w ≡ pos 0
  unfolding number_in
  number_none e = rw (e, empty_refused c w)

  number_outside : is_inside (record_of file k) c w ≡ false → number_in file k c w ≡ pos 0
  unfolding number_in number_at
  number_outside e = rw e

  pub number_before : c ≡ 0 → number_in file k c w ≡ pos 0
  number_before e = number_outside (inside_none (record_of file k) c w e)

-- ---- there is one

-- a part of a part
part_of_part : (n w m : ℕ) (l : List ℕ) → n + w ≤ m → take w (drop n (take m l)) ≡ take w (drop n l)
part_of_part zero w m l h = take-take w m l (omega arith)
part_of_part (suc n) w zero l h = absurd (omega arith)
part_of_part (suc n) w (suc m) [] h = refl
part_of_part (suc n) w (suc m) (x ∷ l) h = part_of_part n w m l (omega arith)

module _ (file : List ℕ) (k : ℕ) (p : 1 ≤ k) (h : k ≤ length file / 74) where
  record_is : record_of file k ≡ take 74 (drop (k * 74 - 74) file)
  unfolding record_of
  record_is = rw (le-leb 1 k p, le-leb _ _ h)

  -- the part that the view cuts out
  pub record_there : record_of file k ≡ take (k * 74 - (k * 74 - 74)) (drop (k * 74 - 74) file)
  record_there =
      let e : k * 74 - (k * 74 - 74) ≡ 74 = omega arith in
      rw e record_is

  -- a record that is there has 74 bytes
  pub record_length : length (record_of file k) ≡ 74
  record_length = rw record_is (length-take-le 74 (drop (k * 74 - 74) file) (rw length-drop (omega arith)))

  module _ (c w : ℕ) (q : 1 ≤ c) where
    -- the columns end behind the record
    pub number_past : 74 < c - 1 + w → number_in file k c w ≡ pos 0
    number_past l = number_outside file k c w (inside_short (record_of file k) c w q (rw record_length l))

    bytes_there : c - 1 + w ≤ 74 → bytes_at (record_of file k) c w ≡ take w (drop (k * 74 - 74 + (c - 1)) file)
    unfolding bytes_at
    bytes_there l = rw record_is (part_of_part (c - 1) w 74 (drop (k * 74 - 74) file) l ∙ rw drop-drop)

    -- the part that is cut out for a number
    pub number_there : c - 1 + w ≤ 74
        → number_in file k c w ≡ value_of (number_of (take (k * 74 - 74 + (c - 1) + w - (k * 74 - 74 + (c - 1))) (drop (k * 74 - 74 + (c - 1)) file)))
    unfolding number_in number_at
    number_there l =
        let e : k * 74 - 74 + (c - 1) + w - (k * 74 - 74 + (c - 1)) ≡ w = omega arith in
        rw (inside_fits (record_of file k) c w q (rw record_length l), bytes_there l, e)
