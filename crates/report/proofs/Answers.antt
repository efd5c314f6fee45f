-- What the programs print, by the way that the code takes: too long, accepted, refused. Assumes nothing.
use mathlib.Core.Path.{◌≡◌, sym, ap, ◌∙◌}
use mathlib.Core.List.{List}
use Prim.Native.Nat.{ℕ, ◌*◌, ◌≤◌, ◌<◌}
use native.Mathlib.Nat.{le_refl}
use native.Mathlib.Omega.{arith}
use lib.IntN.{ℤ}
use lib.ListN.{length, drop}
use borrow.Author.Tests.{lt-ltb, le-ltb, eq-eqb, ne_eqb}
use Rattle.walk.specs.Stages.{records_of}
use Rattle.walk.specs.Row.{row_length}
use Rattle.judge.specs.declared.Outcome.{Outcome}
use Rattle.judge.specs.Outcomes.{outcome_of, measures_of, measures_after}
use Rattle.judge.proofs.Answers.{zero_accepts}
use Rattle.judge.proofs.Measures.{measures_areas}
use Rattle.report.specs.Texts.{status_too_long, ok_text, refused_text, outcome_text, areas_text, most_bytes, answer_to, check_text, measure_text}
use Rattle.report.proofs.Areas.{areas_told}
use Rattle.report.proofs.Lent.{lent_answer}

pub check_long : (input : List ℕ) → 65490 < length input → status_too_long ≡ check_text input
unfolding check_text
check_long input h = rw (lt-ltb most_bytes (length input) (omega arith))

pub measure_long : (input : List ℕ) → 65490 < length input → status_too_long ≡ measure_text input
unfolding measure_text
measure_long input h = rw (lt-ltb most_bytes (length input) (omega arith))

-- the answer o, with room enough
module _ (input : List ℕ) (h : length input ≤ 65490) {room places : ℕ} (a : row_length * 885 ≤ room) (b : 442 ≤ places) {o : Outcome}
    (e : o ≡ outcome_of input room places) where
  told : o ≡ answer_to input
  told = e ∙ lent_answer input h a b

  pub check_ok : o.number ≡ 0 → ok_text o ≡ check_text input
  unfolding check_text outcome_text
  check_ok z = rw (le-ltb most_bytes (length input) (omega arith), ← told, eq-eqb o.number 0 z)

  pub check_refused : (o.number ≡ 0 → ⊥) → refused_text o ≡ check_text input
  unfolding check_text outcome_text
  check_refused z = rw (le-ltb most_bytes (length input) (omega arith), ← told, ne_eqb o.number 0 z)

  -- the measures ms that the judge leaves where zs stood
  pub measure_ok : o.number ≡ 0 → (zs : List ℤ) {ms : List ℤ} → places ≡ length zs → ms ≡ measures_after input room zs
      → areas_text input ms (records_of input) ≡ measure_text input
  unfolding measure_text measures_after
  measure_ok z zs l f =
      let v = zero_accepts input room places (ap (λ (x : Outcome). x.number) (sym e) ∙ z) in
      let m = measures_of input in
      rw (le-ltb most_bytes (length input) (omega arith), ← told, eq-eqb o.number 0 z, (rw (← l, v) at f))
      (areas_told input m (drop (length m) zs) (measures_areas input room places v) (records_of input) (le_refl _))

  pub measure_refused : (o.number ≡ 0 → ⊥) → refused_text o ≡ measure_text input
  unfolding measure_text
  measure_refused z = rw (le-ltb most_bytes (length input) (omega arith), ← told, ne_eqb o.number 0 z)
