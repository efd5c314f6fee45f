-- `numerals::read_number` meets its contract: blanks, sign and digits each are a step of the definition. Assumes nothing.
use mathlib.Core.Path.{◌≡◌, refl, sym, ap, ◌∙◌}
use Prim.Native.Nat.{ℕ, ◌-◌, ◌≤◌}
use native.Mathlib.Omega.{arith}
use lib.Dec.{eqb}
use lib.IntN.{ℤ}
use lib.ListN.{length, get_or, take, drop, length-drop}
use borrow.Author.Rules.{rules}
use borrow.Author.Tests.{eq-eqb, ne_eqb}
use Rattle.std.specs.Prelude.{Option, None, Some}
use Rattle.fields.specs.Number.{number_at, after_blanks, minus, plain_of, signed_of}
use Rattle.fields.proofs.Answers.{number_outside}
use Rattle.fields.proofs.Spelled.{signed}
use Rattle.numerals.proofs.Steps.{width_refused, width_taken, width_most, Found, found_none, found_some, nothing_said, rest_is}
use Rattle.numerals.proofs.Steps.{sign_refused, sign_minus, sign_none}
use Rattle.numerals.proofs.Signs.{Small, digits_small, value_held, minus_none, minus_held_fits, minus_held}
use Rattle.numerals.proofs.read_number.Goals as goal
use Rattle.numerals.proofs.read_number.Goals.{After-position, Else-not-is_width, After-digits, Joined-minus, In_ok-n, then-minus, else-minus}

pub returns-in_err-f : goal.returns-in_err-f
returns-in_err-f c = rw c.from_residual.ensures (number_outside _ _ _ (sym c.in_err-f.ensures) refl)

pub returns-then-not-is_width : goal.returns-then-not-is_width
returns-then-not-is_width c = width_refused _ _ _ c.in_ok-f.ensures.0 c.in_ok-f.ensures.1 _ c.is_width.ensures c.if-not-is_width.true

-- past both tests: what the field says, by what follows the spaces
said : (c : Else-not-is_width) → number_at c.args.s.now c.args.column c.args.width ≡ signed_of (after_blanks c.in_ok-f.f.now)
said c = width_taken _ _ _ c.in_ok-f.ensures.0 c.in_ok-f.ensures.1 _ c.is_width.ensures c.if-not-is_width.false

-- the first byte that is no space
found : (c : After-position) → Found c.in_ok-f.f.now c.position.result
found c = search rules

pub returns-in_err-i : goal.returns-in_err-i
returns-in_err-i c =
    rw c.from_residual-in_err-i.ensures
    (sym (said (goal.at.returns-in_err-i c).Else-not-is_width
    ∙ ap signed_of (found_none _ _ (found (goal.at.returns-in_err-i c).After-position) c.in_err-i.was)
    ∙ nothing_said))

-- what a number field says where the byte b stands behind its spaces and the digits there say d
record Told (n : Option ℤ) (b : ℕ) (d : Option ℤ) : Type 0 where
  is : n ≡ signed (eqb b 45) d

module _ {n d : Option ℤ} {b : ℕ} (h : Told n b d) where
  told_refused : d ≡ None → None ≡ n
  told_refused e = sym (h.is ∙ ap (signed (eqb b 45)) e ∙ sign_refused (eqb b 45))

  told_plain : {v : ℤ} → d ≡ Some v → (b ≡ 45 → ⊥) → Some v ≡ n
  told_plain e t = sym (h.is ∙ rw (ne_eqb _ _ t) e)

  told_minus : {v : ℤ} → d ≡ Some v → b ≡ 45 → minus (Some v) ≡ n
  told_minus e t = sym (h.is ∙ rw (eq-eqb _ _ t) (ap minus e))

-- past the blanks: the digits are from index `i` on, and what is cut out there is at most six bytes
told : (c : Joined-minus) → Found c.in_ok-f.f.now c.position.result
    → Told (number_at c.args.s.now c.args.column c.args.width) (get_or c.in_ok-f.f.now c.in_ok-i.i 0)
    (plain_of (take (length c.in_ok-f.f.now - c.if-minus.i) (drop c.if-minus.i c.in_ok-f.f.now)))
told c h =
    let p = found_some _ _ h c.in_ok-i.was in
    let e = width_taken _ _ _ c.in_ok-f.ensures.0 c.in_ok-f.ensures.1 _ c.is_width.ensures c.if-not-is_width.false ∙ ap signed_of p.1 in
    rw rest_is
    (elim c.if-minus.branch [
      | then-minus w ↦ record { is = e ∙ sign_minus _ _ p.0 (eq-eqb _ _ w.if-minus.true) _ w.i-is }
      | else-minus w ↦ record { is = e ∙ sign_none _ _ p.0 (ne_eqb _ _ w.if-minus.false) _ w.i-is }
    ])

narrow : (c : Joined-minus) → length (take (length c.in_ok-f.f.now - c.if-minus.i) (drop c.if-minus.i c.in_ok-f.f.now)) ≤ 6
narrow c =
    let l : length c.in_ok-f.f.now ≤ 6 = width_most _ _ _ c.in_ok-f.ensures.0 c.in_ok-f.ensures.1 _ c.is_width.ensures c.if-not-is_width.false in
    rw (rest_is, length-drop) (omega arith)

pub digits-requires : goal.digits-requires
digits-requires c = narrow (goal.at.digits-requires c).Joined-minus

pub returns-in_err-n : goal.returns-in_err-n
returns-in_err-n c =
    let b = goal.at.returns-in_err-n c in
    rw c.from_residual-in_err-n.ensures (told_refused (told b.Joined-minus (found b.After-position)) (sym c.digits.ensures ∙ c.in_err-n.was))

small : (c : In_ok-n) → (length (take (length c.in_ok-f.f.now - c.if-minus.i) (drop c.if-minus.i c.in_ok-f.f.now)) ≤ 6) → Small c.in_ok-n.n
small c l = digits_small _ _ l (sym c.digits.ensures ∙ c.in_ok-n.was)

pub returns-then-not-minus : goal.returns-then-not-minus
returns-then-not-minus c =
    let b = goal.at.returns-then-not-minus c in
    value_held (small b.In_ok-n (narrow b.Joined-minus))
    ∙ told_plain (told b.Joined-minus (found b.After-position)) (sym c.digits.ensures ∙ c.in_ok-n.was) c.if-not-minus.true

pub returns-then-n-eq0 : goal.returns-then-n-eq0
returns-then-n-eq0 c =
    let b = goal.at.returns-then-n-eq0 c in
    minus_none (small b.In_ok-n (narrow b.Joined-minus)) c.if-n-eq0.true
    ∙ told_minus (told b.Joined-minus (found b.After-position)) (sym c.digits.ensures ∙ c.in_ok-n.was) c.if-not-minus.false

pub overflow_sub-result : goal.overflow_sub-result
overflow_sub-result c =
    let b = goal.at.overflow_sub-result c in
    minus_held_fits (small b.In_ok-n (narrow b.Joined-minus))

pub returns : goal.returns
returns c =
    let b = goal.at.returns c in
    minus_held (small b.In_ok-n (narrow b.Joined-minus)) c.if-n-eq0.false
    ∙ told_minus (told b.Joined-minus (found b.After-position)) (sym c.digits.ensures ∙ c.in_ok-n.was) c.if-not-minus.false
