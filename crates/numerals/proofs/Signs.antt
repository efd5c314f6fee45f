-- What the machine makes of a number of at most six digits: as a value, and with a minus sign. Assumes nothing.
use mathlib.Core.List.{List}
use mathlib.Core.Path.{◌≡◌, refl, sym, ap, ◌∙◌}
use Prim.Native.Nat.{ℕ, zero, suc, ◌≤◌, ◌<◌}
use native.Mathlib.Omega.{arith}
use lib.Dec.{lit<}
use lib.IntN.{ℤ, pos, negsuc, neg_ℤ, ◌-ℤ◌, +ℤ_idl}
use lib.ListN.{length}
use mir.Facts.{to_z-of_z, to_z_pos}
use mir.Syntax.{w32}
use mir.Val.{SFits, to_z, of_z}
use Rattle.std.specs.Prelude.{Some, None}
use Rattle.fields.specs.Number.{minus, plain_of}
use Rattle.fields.proofs.Unspelled.{plain_size}
use Rattle.numerals.proofs.Steps.{sum_below}

module _ (n : ℕ) (small : n < 1000000) where
  pub size_fits : SFits w32 (pos n)
  size_fits = record { sfits = omega arith }

  pub size_is : to_z w32 n ≡ pos n
  size_is = to_z_pos w32 (omega arith)

minus_fits : (n : ℕ) → n < 1000000 → SFits w32 (neg_ℤ (pos n))
minus_fits zero h = record { sfits = lit< tt }
minus_fits (suc n) h = record { sfits = omega arith }

minus_said : (n : ℕ) → (n ≡ 0 → ⊥) → Some (neg_ℤ (pos n)) ≡ minus (Some (pos n))
minus_said zero z = absurd (z refl)
minus_said (suc n) z = refl

-- what at most six digits say: a natural number that the machine holds
abbrev pub Small : ℤ → Type 0
Small v = (n : ℕ) × (v ≡ pos n) × (n < 1000000)

pub digits_small : (f : List ℕ) (v : ℤ) → length f ≤ 6 → plain_of f ≡ Some v → Small v
digits_small f v l e =
    let p = plain_size f v e in
    (p.0, p.1, sum_below _ _ 6 p.2 l)

module _ {v : ℤ} (s : Small v) where
  held : to_z w32 (of_z w32 v) ≡ pos s.0
  held = ap (λ x. to_z w32 (of_z w32 x)) s.1 ∙ to_z-of_z (size_fits s.0 s.2)

  pub value_held : Some (to_z w32 (of_z w32 v)) ≡ Some v
  value_held = ap Some (held ∙ sym s.1)

  -- with a minus sign: 0 has none
  pub minus_none : of_z w32 v ≡ 0 → None ≡ minus (Some v)
  minus_none z =
      let q : pos s.0 ≡ pos 0 = sym held ∙ ap (to_z w32) z in
      sym (ap (λ x. minus (Some x)) (s.1 ∙ q))

  pub minus_held_fits : SFits w32 (pos 0 -ℤ to_z w32 (of_z w32 v))
  minus_held_fits = rw (held, +ℤ_idl (neg_ℤ (pos s.0))) (minus_fits s.0 s.2)

  pub minus_held : (of_z w32 v ≡ 0 → ⊥) → Some (to_z w32 (of_z w32 (pos 0 -ℤ to_z w32 (of_z w32 v)))) ≡ minus (Some v)
  minus_held n =
      ap Some (to_z-of_z minus_held_fits ∙ ap (λ x. pos 0 -ℤ x) held ∙ +ℤ_idl (neg_ℤ (pos s.0)))
      ∙ minus_said s.0 (λ z. n (ap (of_z w32) (s.1 ∙ ap pos z)))
      ∙ sym (ap (λ x. minus (Some x)) s.1)

-- the same of a size, as the reader from the right has it
pub size_minus_fits : (n : ℕ) → n < 1000000 → SFits w32 (pos 0 -ℤ to_z w32 n)
size_minus_fits n h = rw (size_is n h, +ℤ_idl (neg_ℤ (pos n))) (minus_fits n h)

pub size_minus : (n : ℕ) → n < 1000000 → (n ≡ 0 → ⊥) → Some (to_z w32 (of_z w32 (pos 0 -ℤ to_z w32 n))) ≡ minus (Some (pos n))
size_minus zero h z = absurd (z refl)
size_minus (suc n) h z = rw (to_z-of_z (size_minus_fits (suc n) h), size_is (suc n) h) (ap Some (+ℤ_idl (negsuc n)))
