-- Layouts as lists: the code's way to a field, and what every kind's layout keeps. A kind's fields stand one after another in the
-- columns 1 to 72; antt computes it. Assumes nothing.
use mathlib.Core.Bool.{Bool, true, false, ◌&&◌}
use mathlib.Core.List.{List, [], ◌∷◌, ◌++◌}
use mathlib.Core.Path.{◌≡◌, refl, sym, ◌∙◌}
use Prim.Native.Nat.{ℕ, zero, suc, ◌+◌, ◌-◌, ◌*◌, ◌≤◌, ◌<◌}
use native.Mathlib.Nat.{mul-zero, mul-suc, add-zero}
use native.Mathlib.Numerals.{add-one}
use native.Mathlib.Omega.{arith}
use lib.Dec.{ltb, eqb}
use lib.ListN.{length, get_or, drop, length-drop}
use lib.Seq.{drop-cons}
use borrow.Author.Tests.{ltb-true, ltb-false, eqb-true}
use types.Run.{OneOf}
use Rattle.records.specs.Layout.{row, coordinates_layout, layout_of, start_of, width_of, numbers_of, bytes_of, marks_of, total}
use Rattle.records.specs.declared.Field.TheVariants.{Number, Blank}
use Rattle.records.specs.declared.Field.{Field}
use Rattle.records.specs.declared.Kind.TheVariants.{Mesh, Layer, Node, Line, Coordinates, Area, Loop}
use Rattle.records.specs.declared.Kind.{Kind}
use Rattle.fields.proofs.Places.{both}

-- a `match` on 0, 1, .. n - 1 that took none of them
abbrev pub Passed : ℕ → ℕ → Type 0
Passed zero j = Unit {0}
Passed (suc n) j = Passed n j × (OneOf (n ∷ []) j → ⊥)

pub beyond : (n j : ℕ) → n ≤ j → (OneOf (n ∷ []) j → ⊥) → suc n ≤ j
beyond n j l r = omega (arith, r)

pub above : (n j : ℕ) → Passed n j → n ≤ j
above zero j r = omega arith
above (suc n) j r = beyond n j (above n j r.0) r.1

-- field j of the layout L is f
abbrev pub Stands : List Field → ℕ → Field → Type 0
Stands L j f = drop j L ≡ f ∷ drop (j + 1) L

pub stands : (L : List Field) (j : ℕ) (f z : Field) → j < length L → f ≡ get_or L j z → Stands L j f
stands L j f z l e = rw (add-one, drop-cons L j z l, e)

-- as code has it: the list K that it goes along is the layout L
pub stands_in : {L K : List Field} (j : ℕ) (z f : Field) → K ≡ L → j < length K → get_or K j z ≡ f → Stands L j f
stands_in j z f q l e = rw q at (stands _ j f z l (sym e))

row_stands : (c w n : ℕ) (fs : List Field) (i : ℕ) → i < n → Stands (row c w n ++ fs) i (Number (c + w * i) w)
row_stands c w zero fs i h = absurd (omega arith)
row_stands c w (suc n) fs zero h = rw (mul-zero, add-zero)
row_stands c w (suc n) fs (suc i) h =
    let e : c + w + w * i ≡ c + (w * i + w) = omega arith in
    rw (mul-suc, ← e, add-one (suc i)) (rw (add-one i) at (row_stands (c + w) w n fs i (omega arith)))

-- number j of a coordinate record
pub coordinate_laid : (j : ℕ) → j < 14 → Stands coordinates_layout j (Number (1 + 5 * j) 5)
coordinate_laid j h = row_stands 1 5 14 (Blank 71 2 ∷ []) j h

-- the fields stand one after another from column c to column 72
unfoldable pub tiles : ℕ → List Field → Bool
tiles c [] = eqb c 73
tiles c (f ∷ fs) = eqb (start_of f) c && tiles (c + width_of f) fs

-- every kind's fields take the columns 1 to 72
pub tiled : (k : Kind) → tiles 1 (layout_of k) ≡ true
unfolding layout_of tiles
tiled Mesh = refl
tiled Layer = refl
tiled Node = refl
tiled Line = refl
tiled Coordinates = refl
tiled Area = refl
tiled Loop = refl

-- what tiling says of a first field
pub record Tile (c : ℕ) (f : Field) (fs : List Field) : Type 0 where
  pub start : start_of f ≡ c
  pub rest : tiles (c + width_of f) fs ≡ true

pub tile : (c : ℕ) (f : Field) (fs : List Field) → tiles c (f ∷ fs) ≡ true → Tile c f fs
unfolding tiles
tile c f fs h =
    let q = both (eqb (start_of f) c) (tiles (c + width_of f) fs) h in
    record { start = eqb-true _ _ q.0; rest = q.1 }

-- a layout that tiles from column c ends with column 72
pub tiles_end : (L : List Field) (c : ℕ) → tiles c L ≡ true → c + total width_of L ≡ 73
unfolding tiles total
tiles_end [] c h = let e = eqb-true c 73 h in omega arith
tiles_end (f ∷ fs) c h =
    let e = tiles_end fs (c + width_of f) (tile c f fs h).rest in
    omega arith

-- a layout that tiles from column c takes the columns up to 72
pub tiles_width : (L : List Field) (c : ℕ) → tiles c L ≡ true → total width_of L ≡ 73 - c
tiles_width L c h =
    let e : c + total width_of L ≡ 73 = tiles_end L c h in
    omega arith

-- no field starts behind column 73
pub start_small : (L : List Field) (c j : ℕ) (f : Field) → tiles c L ≡ true → Stands L j f → start_of f ≤ 73
start_small [] c zero f h e = let z : ◌≡◌ {A = ℕ} 0 1 = cc in absurd (omega arith)
start_small [] c (suc j) f h e = let z : ◌≡◌ {A = ℕ} 0 1 = cc in absurd (omega arith)
start_small (g ∷ L) c zero f h e =
    let z : g ≡ f = cc in
    rw (← z) (omega (arith, (tile c g L h).start, tiles_end (g ∷ L) c h))
start_small (g ∷ L) c (suc j) f h e = start_small L (c + width_of g) j f (tile c g L h).rest (rw (add-one j) (rw (add-one (suc j)) at e))

-- what a record's value and the loops have room for
pub record Fitting (L : List Field) : Type 0 where
  pub tiled : tiles 1 L ≡ true
  pub few : length L ≤ 18
  pub numbers : total numbers_of L ≤ 16
  pub names : total bytes_of L ≤ 40
  pub marks : total marks_of L ≤ 2

pub fitting : (k : Kind) → Fitting (layout_of k)
unfolding layout_of total
fitting Mesh = record { tiled = tiled Mesh; few = omega arith; numbers = omega arith; names = omega arith; marks = omega arith }
fitting Layer = record { tiled = tiled Layer; few = omega arith; numbers = omega arith; names = omega arith; marks = omega arith }
fitting Node = record { tiled = tiled Node; few = omega arith; numbers = omega arith; names = omega arith; marks = omega arith }
fitting Line = record { tiled = tiled Line; few = omega arith; numbers = omega arith; names = omega arith; marks = omega arith }
fitting Coordinates = record { tiled = tiled Coordinates; few = omega arith; numbers = omega arith; names = omega arith; marks = omega arith }
fitting Area = record { tiled = tiled Area; few = omega arith; numbers = omega arith; names = omega arith; marks = omega arith }
fitting Loop = record { tiled = tiled Loop; few = omega arith; numbers = omega arith; names = omega arith; marks = omega arith }

-- ---- a field at an index

-- a field is within the layout
pub on_layout : (L : List Field) (j : ℕ) (f : Field) → Stands L j f → j < length L
on_layout L j f e =
    let n : length L - j ≡ suc (length (drop (j + 1) L)) = sym (length-drop j L) ∙ rw e in
    omega (arith, n)

-- ---- along a layout, field by field

-- at field j, with n numbers, m name bytes and q marks taken, there is room for the rest
pub record Ahead (L : List Field) (n m q j : ℕ) : Type 0 where
  pub fits : Fitting L
  pub numbers : n + total numbers_of (drop j L) ≤ 16
  pub names : m + total bytes_of (drop j L) ≤ 40
  pub marks : q + total marks_of (drop j L) ≤ 2

pub ahead : (k : Kind) → Ahead (layout_of k) 0 0 0 0
ahead k = record {
  fits = fitting k;
  numbers = omega (arith, (fitting k).numbers);
  names = omega (arith, (fitting k).names);
  marks = omega (arith, (fitting k).marks);
}

-- there is room for the field f at j and what it gives
pub record Room (L : List Field) (f : Field) (n m q j : ℕ) : Type 0 where
  pub inside : j < length L
  pub step : j < 18
  pub numbers : n + numbers_of f ≤ 16
  pub names : m + bytes_of f ≤ 40
  pub marks : q + marks_of f ≤ 2

module _ (L : List Field) (j : ℕ) (f : Field) (e : Stands L j f) where
  pub total_split : (h : Field → ℕ) → total h (drop j L) ≡ h f + total h (drop (j + 1) L)
  unfolding total
  total_split h = rw e

  module _ {n m q : ℕ} (a : Ahead L n m q j) where
    pub room_ahead : Room L f n m q j
    room_ahead = record {
      inside = on_layout L j f e;
      step = omega (arith, on_layout L j f e, a.fits.few);
      numbers = omega (arith, total_split numbers_of, a.numbers);
      names = omega (arith, total_split bytes_of, a.names);
      marks = omega (arith, total_split marks_of, a.marks);
    }

    pub next_ahead : (n' m' q' : ℕ) → n' ≡ n + numbers_of f → m' ≡ m + bytes_of f → q' ≡ q + marks_of f → Ahead L n' m' q' (j + 1)
    next_ahead n' m' q' x y z = record {
      fits = a.fits;
      numbers = omega (arith, total_split numbers_of, a.numbers);
      names = omega (arith, total_split bytes_of, a.names);
      marks = omega (arith, total_split marks_of, a.marks);
    }
