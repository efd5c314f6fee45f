-- What the programs write of all that they are given. They read up to 65,491 bytes: what is longer gets the same text as those. Assumes nothing.
use Rattle.std.proofs.Common.{◌≡◌, ℕ, ◌<◌, ◌≤◌, List, [], ◌++◌, length, take, Option, Some, None, IfSome, Ok, sym, ap, ◌∙◌, subst, arith, length-append, length-take-le, append-nil}
use Rattle.std.proofs.Math.Logic.{inl, inr}
use Rattle.std.proofs.lemmas.Bool.{cases_lt}
use Rattle.std.specs.Io.KnownBytes.{Appends}
use Rattle.streams.specs.Reading.{Taken}
use Rattle.report.specs.Texts.{check_text, measure_text}
use Rattle.report.proofs.Answers.{check_long, measure_long}

-- a text of what is given is settled by its first 65,491 bytes
abbrev pub IsSettled : (List ℕ → List ℕ) → Type 0
IsSettled text = (first rest : List ℕ) → (length first < 65491 → rest ≡ []) → text first ≡ text (first ++ rest)

settled : (text : List ℕ → List ℕ) {long : List ℕ} → ((input : List ℕ) → 65490 < length input → long ≡ text input) → IsSettled text
settled text {long} h first rest short =
    elim (cases_lt (length first) 65491) [
      | inl l ↦ ap text (sym (append-nil first) ∙ ap (λ r. first ++ r) (sym (short l)))
      | inr l ↦ sym (h first (omega arith)) ∙ h (first ++ rest) (omega (arith, length-append first rest))
    ]

pub check_settled : IsSettled check_text
check_settled = settled check_text check_long

pub measure_settled : IsSettled measure_text
measure_settled = settled measure_text measure_long

-- the text of what was read was written: it is that of all that was given
pub all_given : {text : List ℕ → List ℕ} → IsSettled text → (known left old new : Option (List ℕ)) (n : ℕ) (buffer written : List ℕ) → length buffer ≡ 65491 → n ≤ length buffer
    → Taken known left (Ok n) buffer → written ≡ text (take n buffer) → Appends old new written → IfSome known (λ input. Appends old new (text input))
all_given s None left old new n buffer written e h t w p = tt
all_given s (Some xs) None old new n buffer written e h t w p = absurd t.0
all_given {text} s (Some xs) (Some ys) old new n buffer written e h t w p =
    let l = length-take-le n buffer h in
    subst (Appends old new) (w ∙ s (take n buffer) ys (λ m. t.1 (omega arith)) ∙ ap text (sym t.0)) p
