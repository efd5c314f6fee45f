-- A code field (RULES 3.6): a number with one more spelling, and the mark that tells the two apart. Assumes nothing.
--   land_text            " 0000"
--   code v m             the value v with the mark m
--   code_at s c w        the answer to the w columns of s from column c on: a value with its mark, or a refusal
--   code_refusal, code_value, code_mark  what the answer stands for: 5 or 0; its value; its mark
--   code_holds w v m     w columns hold the value v with the mark m
--   spell_code w v m     its columns
--   CodeSays s c w v m   the w columns of s from column c on say v with the mark m
use Rattle.std.specs.Prelude.{◌≡◌, Bool, true, false, cond, ◌&&◌, List, [], ◌∷◌, ℕ, zero, suc, eqb, ℤ, pos, negsuc, length, get_or, Option, Some, None}
use Rattle.fields.specs.Place.{is_inside, bytes_at}
use Rattle.fields.specs.Number.{number_at, holds}
use Rattle.fields.specs.Spelling.{spell}
use Rattle.codes.specs.declared.Code.{Code}

-- RULES 3.6: land as one supplier prints it: a space and four zeros
abbrev pub land_text : List ℕ
land_text = 32 ∷ 48 ∷ 48 ∷ 48 ∷ 48 ∷ []

unfoldable pub is_land : List ℕ → Bool
is_land f =
    eqb (length f) 5
    && (eqb (get_or f 0 0) 32 && (eqb (get_or f 1 0) 48 && (eqb (get_or f 2 0) 48 && (eqb (get_or f 3 0) 48 && eqb (get_or f 4 0) 48))))

unfoldable pub land_at : List ℕ → ℕ → ℕ → Bool
land_at s c w = is_inside s c w && is_land (bytes_at s c w)

-- a value with its mark
abbrev pub code : ℤ → ℕ → Code
code v m = record { value = v; mark = m }

-- RULES 3.6: a number has mark 0; what is no number is land, 0 with mark 1, or ill formed
abbrev pub coded : Option ℤ → Bool → Option Code
coded (Some v) land = Some (code v 0)
coded None land = cond land (Some (code (pos 0) 1)) None

unfoldable pub code_at : List ℕ → ℕ → ℕ → Option Code
code_at s c w = coded (number_at s c w) (land_at s c w)

-- RULES 3.5: an ill-formed field is refusal 5; its value and its mark are then 0
abbrev pub code_refusal : Option Code → ℕ
code_refusal (Some k) = 0
code_refusal None = 5

abbrev pub code_value : Option Code → ℤ
code_value (Some k) = k.value
code_value None = pos 0

abbrev pub code_mark : Option Code → ℕ
code_mark (Some k) = k.mark
code_mark None = 0

-- RULES 3.6: land is 0, in five columns
abbrev pub land_holds : ℕ → ℤ → Bool
land_holds w (pos n) = eqb w 5 && eqb n 0
land_holds w (negsuc n) = false

-- RULES 3.6: a mark is 0, and then the field holds what a number field does; or 1, for land
unfoldable pub code_holds : ℕ → ℤ → ℕ → Bool
code_holds w v zero = holds w v
code_holds w v (suc zero) = land_holds w v
code_holds w v (suc (suc m)) = false

unfoldable pub spell_code : ℕ → ℤ → ℕ → List ℕ
spell_code w v zero = spell w v
spell_code w v (suc m) = land_text

pub record CodeSays (s : List ℕ) (c w : ℕ) (v : ℤ) (m : ℕ) : Type 0 where
  pub there : is_inside s c w ≡ true
  pub held : code_holds w v m ≡ true
  pub spelled : bytes_at s c w ≡ spell_code w v m

-- RULES 9.5: what fits the w columns of a buffer s from column c on
unfoldable pub code_fits : List ℕ → ℕ → ℕ → ℤ → ℕ → Bool
code_fits s c w v m = is_inside s c w && code_holds w v m
