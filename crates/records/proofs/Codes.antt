-- A record's codes: what a code is to whoever looks at values alone. Assumes nothing.
use mathlib.Core.Bool.{Bool, true, false}
use mathlib.Core.List.{List}
use mathlib.Core.Path.{◌≡◌, refl, sym, ◌∙◌}
use Prim.Native.Nat.{ℕ, zero, suc}
use lib.IntN.{ℤ}
use Rattle.fields.specs.Answer.{value_of}
use Rattle.fields.specs.Number.{number_at}
use Rattle.std.specs.Prelude.{Option, Some, None}
use Rattle.codes.specs.Code.{code_at, code_value, code}
use Rattle.codes.specs.declared.Code.{Code}
use Rattle.codes.proofs.CodeLaws.{code_value_lem, marked_zero}
use Rattle.records.specs.Reading.{in_layer_five, landed, code_in}
use Rattle.records.specs.View.{number_in}
use Rattle.records.specs.Columns.{Span, number_on, code_on}

-- the value of a code with a mark is 0, so one that is refused for its layer has lost nothing
marked_by : (s : List ℕ) (c w : ℕ) (five : Bool) (v : ℤ) (m : ℕ) → code_at s c w ≡ Some (code v m) → code_value (landed five (Some (code v m))) ≡ v
marked_by s c w five v zero e = refl
marked_by s c w true v (suc m) e = refl
marked_by s c w false v (suc m) e = sym (marked_zero s c w v m e)

landed_value : (s : List ℕ) (c w : ℕ) (five : Bool) (r : Option Code) → code_at s c w ≡ r → code_value (landed five r) ≡ code_value r
landed_value s c w five (Some k) e = marked_by s c w five k.value k.mark e
landed_value s c w five None e = refl

-- A CODE IS A NUMBER TO WHOEVER LOOKS AT VALUES: the value of a record's code is the number in its columns, land among them (RULES 5.7)
pub code_number : (s : List ℕ) (c w : ℕ) → code_value (code_in s c w) ≡ value_of (number_at s c w)
unfolding code_in
code_number s c w = landed_value s c w (in_layer_five s) (code_at s c w) refl ∙ code_value_lem s c w

pub code_on_lem : (file : List ℕ) (k : ℕ) (s : Span) → code_on file k s ≡ number_on file k s
unfolding number_in
code_on_lem file k s = code_number _ s.start s.width
