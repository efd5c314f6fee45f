-- A code field's answers, put together from what the steps of the code found. Assumes nothing.
use mathlib.Core.Bool.{Bool, true, false, ◌&&◌}
use mathlib.Core.List.{List, ◌++◌}
use mathlib.Core.Path.{◌≡◌, refl, ap}
use Prim.Native.Nat.{ℕ, zero, suc, ◌+◌, ◌-◌}
use native.Mathlib.Omega.{arith}
use lib.IntN.{ℤ, pos, negsuc}
use lib.ListN.{take, drop}
use mir.Syntax.{w32}
use mir.Val.{SFits, of_z}
use borrow.Author.Tests.{eq-eqb, ne_eqb}
use Rattle.std.specs.Bool.{one_answer}
use Rattle.std.specs.Prelude.{◌↔◌, Option, Some, None}
use Rattle.fields.specs.Answer.{Writing, done, unfit, number_fits, Wrote}
use Rattle.fields.specs.Number.{number_at}
use Rattle.fields.specs.Place.{is_inside}
use Rattle.fields.specs.Spelling.{spell}
use Rattle.codes.specs.Code.{land_text, code, is_land, land_at, code_at, land_holds, code_holds, spell_code, code_fits}
use Rattle.codes.proofs.CodeLaws.{land_text_lem, land_is}
use Rattle.writers.proofs.Answers.{wrote_nothing, wrote_all}

-- ---- land

-- a test for its text
pub land_iff : (f : List ℕ) (r : Bool) → r ≡ true ↔ (f ≡ land_text) → r ≡ is_land f
land_iff f r h = one_answer r (is_land f) h (land_text_lem f, λ e. rw e land_is)

-- ---- reading: r is the answer to the number, and l to land

module _ (s : List ℕ) (c w : ℕ) {r : Option ℤ} (q : r ≡ number_at s c w) where
  pub number_coded : (v : ℤ) → r ≡ Some v → Some (code v 0) ≡ code_at s c w
  unfolding code_at
  number_coded v z = rw (← q, z)

  module _ (z : r ≡ None) {l : Bool} (p : l ≡ land_at s c w) where
    pub land_coded : l ≡ true → Some (code (pos 0) 1) ≡ code_at s c w
    unfolding code_at
    land_coded y = rw (← q, z, ← p, y)

    pub none_coded : l ≡ false → None ≡ code_at s c w
    unfolding code_at
    none_coded n = rw (← q, z, ← p, n)

-- ---- writing

-- with mark 0 it is a number
pub number_written : (s : List ℕ) (c w : ℕ) (v : ℤ) (m : ℕ) {r : Writing} {after : List ℕ} → m ≡ 0
    → Wrote (number_fits s c w v) s c (spell w v) r after → Wrote (code_fits s c w v m) s c (spell_code w v m) r after
unfolding code_fits number_fits code_holds spell_code
number_written s c w v m e h = rw e h

-- a number whose bits are 0 is 0, and no other is
pub zero_value : (v : ℤ) → SFits w32 v → of_z w32 v ≡ 0 → v ≡ pos 0
zero_value (pos n) f e = ap pos e
zero_value (negsuc n) f e = absurd (omega (arith, f.sfits, e))

some_value : (w : ℕ) (v : ℤ) → w ≡ 5 → (of_z w32 v ≡ 0 → ⊥) → land_holds w v ≡ false
some_value w (pos n) e h = rw (eq-eqb w 5 e, ne_eqb n 0 h)
some_value w (negsuc n) e h = refl

-- what does not fit
unfit_by : (a b : Bool) → b ≡ false → (a && b) ≡ false
unfit_by true b h = h
unfit_by false b h = refl

module _ (s : List ℕ) (c w : ℕ) (v : ℤ) (m : ℕ) where
  no_fit : code_holds w v m ≡ false → Wrote (code_fits s c w v m) s c (spell_code w v m) unfit s
  unfolding code_fits
  no_fit h = wrote_nothing _ s c (spell_code w v m) (unfit_by (is_inside s c w) (code_holds w v m) h)

  no_mark : (m : ℕ) → (m ≡ 0 → ⊥) → (m ≡ 1 → ⊥) → code_holds w v m ≡ false
  unfolding code_holds
  no_mark zero a b = absurd (a refl)
  no_mark (suc zero) a b = absurd (b refl)
  no_mark (suc (suc m)) a b = refl

  pub mark_unfit : (m ≡ 0 → ⊥) → (m ≡ 1 → ⊥) → Wrote (code_fits s c w v m) s c (spell_code w v m) unfit s
  mark_unfit a b = no_fit (no_mark m a b)

  module _ (e : m ≡ 1) where
    land_wide : (v : ℤ) → (w ≡ 5 → ⊥) → land_holds w v ≡ false
    land_wide (pos n) h = rw (ne_eqb w 5 h)
    land_wide (negsuc n) h = refl

    pub width_unfit : (w ≡ 5 → ⊥) → Wrote (code_fits s c w v m) s c (spell_code w v m) unfit s
    unfolding code_holds
    width_unfit h = no_fit (rw e (land_wide v h))

    module _ (f : w ≡ 5) where
      pub value_unfit : (of_z w32 v ≡ 0 → ⊥) → Wrote (code_fits s c w v m) s c (spell_code w v m) unfit s
      unfolding code_holds
      value_unfit h = no_fit (rw e (some_value w v f h))

      module _ {t : Bool} (i : t ≡ is_inside s c w) where
        pub place_unfit : t ≡ false → Wrote (code_fits s c w v m) s c (spell_code w v m) unfit s
        unfolding code_fits
        place_unfit n = wrote_nothing _ s c (spell_code w v m) (rw (← i, n))

        -- land is written
        pub land_written : v ≡ pos 0 → t ≡ true → (after : List ℕ) → after ≡ take (c - 1) s ++ (land_text ++ drop (c - 1 + 5) s)
            → Wrote (code_fits s c w v m) s c (spell_code w v m) done after
        unfolding code_fits code_holds spell_code
        land_written z y after q =
            rw e (wrote_all (is_inside s c w && land_holds w v) s c land_text (rw (← i, y, z, eq-eqb w 5 f)) after 5 refl q)
