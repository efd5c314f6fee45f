-- What each answer stands for: its refusal number (RULES 6.2), and its value. Assumes nothing.
--   number_refusal, text_refusal  5 for an ill-formed field, else 0
--   value_of                      a number field's value, 0 where it is refused
--   Writing, done, unfit         a writer's answers: `Ok(())` and `Err(Unfit)`
--   writing_refusal              20 for what does not fit, else 0
--   Wrote                        a writer's answer and its buffer afterwards
use Rattle.std.specs.Prelude.{◌≡◌, Bool, true, false, cond, ◌&&◌, Result, Ok, Err, List, ℕ, eqb, ℤ, pos, length, Option, Some, None}
use Rattle.fields.specs.declared.Unfit.{Unfit}
use Rattle.fields.specs.Place.{is_inside, put}
use Rattle.fields.specs.Number.{holds}
use Rattle.fields.specs.Text.{is_name}

-- RULES 3.5: an ill-formed field is refusal 5; RULES 6.1: acceptance is number 0
abbrev pub number_refusal : Option ℤ → ℕ
number_refusal (Some v) = 0
number_refusal None = 5

abbrev pub value_of : Option ℤ → ℤ
value_of (Some v) = v
value_of None = pos 0

-- RULES 3.5: the same of a name or a blank field
abbrev pub text_refusal : Bool → ℕ
text_refusal true = 0
text_refusal false = 5

-- a writer's two answers
abbrev pub Writing : Type 0
Writing = Result (Unit {0}) Unfit

abbrev pub done : Writing
done = Ok tt

abbrev pub unfit : Writing
unfit = Err (record {})

-- RULES 9.5: what does not fit is refusal 20
abbrev pub writing_refusal : Writing → ℕ
writing_refusal (Ok x) = 0
writing_refusal (Err e) = 20

-- RULES 9.5: what fits the w columns of a buffer s from column c on: a value, a name; spaces always do
unfoldable pub number_fits : List ℕ → ℕ → ℕ → ℤ → Bool
number_fits s c w v = is_inside s c w && holds w v

unfoldable pub name_fits : List ℕ → ℕ → ℕ → List ℕ → Bool
name_fits s c w name = is_inside s c w && (eqb (length name) w && is_name name)

-- RULES 9.5: what fits is written and nothing else changes; what does not fit is refused and the buffer is as it was
pub record Wrote (fits : Bool) (before : List ℕ) (c : ℕ) (t : List ℕ) (r : Writing) (after : List ℕ) : Type 0 where
  pub answer : r ≡ cond fits done unfit
  pub buffer : after ≡ cond fits (put before c t) before
