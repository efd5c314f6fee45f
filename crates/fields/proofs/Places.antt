-- A field's place: what `is_inside` says of numbers, and `put` and `bytes_at` against each other. Assumes nothing.
use mathlib.Core.Bool.{Bool, true, false, ◌&&◌}
use mathlib.Core.List.{List, ◌++◌}
use mathlib.Core.Path.{◌≡◌, refl, sym, ap, ◌∙◌}
use Prim.Native.Nat.{ℕ, ◌+◌, ◌-◌, ◌≤◌, ◌<◌}
use native.Mathlib.Omega.{arith}
use lib.Dec.{leb}
use lib.ListN.{length, take, drop, length-append, length-drop, take-append-drop}
use lib.Seq.{length-take-le, take_at, drop_at, drop-drop}
use borrow.Author.Tests.{le-leb, lt-leb, leb-true, leb-false}
use Rattle.fields.specs.Place.{is_inside, bytes_at, put}

-- both of two tests that hold together
pub both : (a b : Bool) → a && b ≡ true → (a ≡ true) × (b ≡ true)
both true b e = (refl, e)
both false b e = absurd (cc)

module _ (s : List ℕ) (c w : ℕ) where
  pub inside_none : c ≡ 0 → is_inside s c w ≡ false
  unfolding is_inside
  inside_none e = rw (lt-leb 1 c (omega arith))

  pub inside_short : 1 ≤ c → length s < c - 1 + w → is_inside s c w ≡ false
  unfolding is_inside
  inside_short p l = rw (le-leb 1 c p, lt-leb _ _ l)

  pub inside_fits : 1 ≤ c → c - 1 + w ≤ length s → is_inside s c w ≡ true
  unfolding is_inside
  inside_fits p l = rw (le-leb 1 c p, le-leb _ _ l)

  -- as the code asks it, so that no sum can wrap
  pub inside_rest : 1 ≤ c → c - 1 ≤ length s → leb w (length s - (c - 1)) ≡ is_inside s c w
  inside_rest p l = by (leb w (length s - (c - 1))) refl
    where
      by : (t : Bool) → leb w (length s - (c - 1)) ≡ t → t ≡ is_inside s c w
      by true e =
          let h = leb-true _ _ e in
          sym (inside_fits p (omega arith))
      by false e =
          let h = leb-false _ _ e in
          sym (inside_short p (omega arith))

  pub inside_bounds : is_inside s c w ≡ true → (1 ≤ c) × (c - 1 + w ≤ length s)
  unfolding is_inside
  inside_bounds e =
      let t = both (leb 1 c) (leb (c - 1 + w) (length s)) e in
      (leb-true _ _ t.0, leb-true _ _ t.1)

  -- the part that the code cuts out
  pub part_is : take (c - 1 + w - (c - 1)) (drop (c - 1) s) ≡ bytes_at s c w
  unfolding bytes_at
  part_is =
      let e : c - 1 + w - (c - 1) ≡ w = omega arith in
      rw e

module _ (s : List ℕ) (c w : ℕ) (t : List ℕ) (i : is_inside s c w ≡ true) (l : length t ≡ w) where
  pub put_length : length (put s c t) ≡ length s
  unfolding put
  put_length =
      let b = inside_bounds s c w i in
      let k : c - 1 ≤ length s = omega arith in
      rw (length-append, length-append, length-take-le (c - 1) s k, length-drop, l) (omega arith)

  -- what was put is inside, and stands there
  pub put_inside : is_inside (put s c t) c w ≡ true
  put_inside =
      let b = inside_bounds s c w i in
      inside_fits (put s c t) c w b.0 (rw put_length b.1)

  pub put_bytes : bytes_at (put s c t) c w ≡ t
  unfolding put bytes_at
  put_bytes =
      let b = inside_bounds s c w i in
      let k : c - 1 ≤ length s = omega arith in
      rw (drop_at (take (c - 1) s) (t ++ drop (c - 1 + length t) s) (c - 1) (length-take-le (c - 1) s k)) (take_at t (drop (c - 1 + length t) s) w l)

bytes_rest : (s : List ℕ) (c w : ℕ) → bytes_at s c w ++ drop w (drop (c - 1) s) ≡ drop (c - 1) s
unfolding bytes_at
bytes_rest s c w = take-append-drop w (drop (c - 1) s)

module _ (s : List ℕ) (c w : ℕ) (i : is_inside s c w ≡ true) where
  pub bytes_length : length (bytes_at s c w) ≡ w
  unfolding bytes_at
  bytes_length =
      let b = inside_bounds s c w i in
      length-take-le w (drop (c - 1) s) (rw length-drop (omega arith))

  -- a field's own bytes, put where they stand
  pub put_same : put s c (bytes_at s c w) ≡ s
  unfolding put
  put_same =
      rw bytes_length
      (ap (λ x. take (c - 1) s ++ (bytes_at s c w ++ x)) (sym (drop-drop w (c - 1) s))
      ∙ ap (λ x. take (c - 1) s ++ x) (bytes_rest s c w)
      ∙ take-append-drop (c - 1) s)
