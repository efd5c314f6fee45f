-- A writer's answer and its buffer, put together from what its steps found. Assumes nothing.
use mathlib.Core.Bool.{Bool, true, false}
use mathlib.Core.List.{List, ◌++◌}
use mathlib.Core.Path.{◌≡◌}
use Prim.Native.Nat.{ℕ, ◌+◌, ◌-◌}
use native.Mathlib.Omega.{arith}
use lib.IntN.{ℤ}
use lib.ListN.{length, take, drop}
use lib.Seq.{drop-drop}
use borrow.Author.Tests.{eq-eqb, ne_eqb}
use borrow.Rule.Slice.PartMut.{put_mid}
use Rattle.fields.specs.Answer.{done, unfit, number_fits, name_fits, Wrote}
use Rattle.fields.specs.Number.{holds}
use Rattle.fields.specs.Place.{is_inside, put}
use Rattle.fields.specs.Text.{is_name}

-- t is the answer to whether the field lies inside
module _ (s : List ℕ) (c w : ℕ) {t : Bool} (e : t ≡ is_inside s c w) where
  module _ (v : ℤ) where
    pub number_unfit : t ≡ false → number_fits s c w v ≡ false
    unfolding number_fits
    number_unfit n = rw (← e, n)

    pub number_fit : t ≡ true → {r : Bool} → r ≡ holds w v → number_fits s c w v ≡ r
    unfolding number_fits
    number_fit y q = rw (← e, y, ← q)

  module _ (name : List ℕ) where
    pub name_unfit : t ≡ false → name_fits s c w name ≡ false
    unfolding name_fits
    name_unfit n = rw (← e, n)

    pub name_unlike : t ≡ true → (length name ≡ w → ⊥) → name_fits s c w name ≡ false
    unfolding name_fits
    name_unlike y n = rw (← e, y, ne_eqb _ _ n)

    pub name_fit : t ≡ true → length name ≡ w → {r : Bool} → r ≡ is_name name → name_fits s c w name ≡ r
    unfolding name_fits
    name_fit y l q = rw (← e, y, eq-eqb _ _ l, ← q)

module _ (fits : Bool) (before : List ℕ) (c : ℕ) (t : List ℕ) where
  pub wrote_nothing : fits ≡ false → Wrote fits before c t unfit before
  wrote_nothing n = record { answer = rw n; buffer = rw n }

  pub wrote_all : fits ≡ true → (after : List ℕ) (w : ℕ) → length t ≡ w → after ≡ take (c - 1) before ++ (t ++ drop (c - 1 + w) before)
      → Wrote fits before c t done after
  unfolding put
  wrote_all y after w l q = record { answer = rw y; buffer = rw (y, l) q }

-- a part that was written over with t, as the code cuts it out
pub part_written : (s : List ℕ) (c w : ℕ) {r t : List ℕ} → r ≡ t → put_mid (c - 1) (c - 1 + w - (c - 1)) s r ≡ take (c - 1) s ++ (t ++ drop (c - 1 + w) s)
part_written s c w e =
    let n : c - 1 + w - (c - 1) ≡ w = omega arith in
    rw (e, n, drop-drop w (c - 1) s)
