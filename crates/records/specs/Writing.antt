-- How a record's value is written (RULES 9.5, the writer), over any layout. Assumes nothing.
--   text_of l L ns nm ms   the columns of the layout L for the letters l, the numbers ns, the name bytes nm and the marks ms
--   fits five L ns nm ms   whether each field holds its own and the unused entries are 0; five says that the record is of layer 5
--   letters_fit k l  whether a record of kind k may have the letters l
--   record_bytes r   the record's 74 bytes
--   spelled r        the same where its fields fit, and else none
--   Written          the writer's answer and its buffer afterwards
use Rattle.std.specs.Prelude.{◌≡◌, Bool, true, cond, ◌&&◌, ◌||◌, List, [], ◌∷◌, ◌++◌, ℕ, leb, eqb, ℤ, pos, length, get_or, take, drop, replicate}
use Rattle.std.specs.Prelude.{Result, Ok, Err}
use Rattle.std.specs.List.{list_all}
use Rattle.permitted.specs.Permitted.{is_zero, is}
use Rattle.fields.specs.declared.Unfit.{Unfit}
use Rattle.fields.specs.Number.{holds}
use Rattle.fields.specs.Spelling.{spell}
use Rattle.fields.specs.Text.{is_name}
use Rattle.codes.specs.Code.{code_holds, spell_code}
use Rattle.records.specs.declared.Kind.{Kind}
use Rattle.records.specs.declared.Field.{Field}
use Rattle.records.specs.declared.Field.TheVariants.{Letters, Number, Code, Name, Blank}
use Rattle.records.specs.declared.Record.{Record}
use Rattle.records.specs.Layout.{layout_of, numbers_of, bytes_of, marks_of}
use Rattle.records.specs.Reading.{is_head, mark_fits}

-- ---- one field, of the numbers, the name bytes and the marks that are left

-- RULES 4.8: of the two letters that may stand second the letters 2 say the last, which is that of H2
unfoldable pub second_letter : ℕ → ℕ → ℕ → ℕ
second_letter b c letters = cond (eqb letters 2) c b

unfoldable pub field_text : ℕ → Field → List ℤ → List ℕ → List ℕ → List ℕ
field_text letters (Letters a b c) ns nm ms = a ∷ second_letter b c letters ∷ []
field_text letters (Number c w) ns nm ms = spell w (get_or ns 0 (pos 0))
field_text letters (Code c w) ns nm ms = spell_code w (get_or ns 0 (pos 0)) (get_or ms 0 0)
field_text letters (Name c w) ns nm ms = take w nm
field_text letters (Blank c w) ns nm ms = replicate w 32

-- RULES 9.5: a value fits its field, a name is two-byte characters
unfoldable pub field_fits : Bool → Field → List ℤ → List ℕ → List ℕ → Bool
field_fits five (Letters a b c) ns nm ms = true
field_fits five (Number c w) ns nm ms = leb 1 (length ns) && holds w (get_or ns 0 (pos 0))
field_fits five (Code c w) ns nm ms =
    (leb 1 (length ns) && leb 1 (length ms)) && (code_holds w (get_or ns 0 (pos 0)) (get_or ms 0 0) && mark_fits five (get_or ms 0 0))
field_fits five (Name c w) ns nm ms = leb w (length nm) && is_name (take w nm)
field_fits five (Blank c w) ns nm ms = true

-- ---- all fields of a layout

unfoldable pub text_of : ℕ → List Field → List ℤ → List ℕ → List ℕ → List ℕ
text_of letters [] ns nm ms = []
text_of letters (f ∷ fs) ns nm ms =
    field_text letters f ns nm ms ++ text_of letters fs (drop (numbers_of f) ns) (drop (bytes_of f) nm) (drop (marks_of f) ms)

-- RULES 9.5: an entry that the kind lacks is 0; name bytes and marks alike
abbrev pub no_numbers : List ℤ → Bool
no_numbers ns = list_all is_zero ns

abbrev pub no_bytes : List ℕ → Bool
no_bytes bs = list_all (λ b. eqb b 0) bs

unfoldable pub fits : Bool → List Field → List ℤ → List ℕ → List ℕ → Bool
fits five [] ns nm ms = no_numbers ns && (no_bytes nm && no_bytes ms)
fits five (f ∷ fs) ns nm ms =
    field_fits five f ns nm ms && fits five fs (drop (numbers_of f) ns) (drop (bytes_of f) nm) (drop (marks_of f) ms)

-- ---- a record's 74 bytes

-- RULES 2.1: 72 columns, then CR and LF
unfoldable pub record_bytes : Record → List ℕ
record_bytes r = text_of r.letters (layout_of r.kind) r.numbers r.name r.marks ++ (13 ∷ 10 ∷ [])

-- RULES 4.4, 4.6: the first number of an L and of an A, which have codes, is the layer code
abbrev pub of_layer_five : List ℤ → Bool
of_layer_five ns = is 5 (get_or ns 0 (pos 0))

unfoldable pub fields_fit : Record → Bool
fields_fit r = fits (of_layer_five r.numbers) (layout_of r.kind) r.numbers r.name r.marks

-- RULES 9.5: the letters of an H are 1 or 2, and those of another kind 0
abbrev pub letters_fit : Kind → ℕ → Bool
letters_fit k l = cond (is_head k) (eqb l 1 || eqb l 2) (eqb l 0)

unfoldable pub fits_all : Record → Bool
fits_all r = letters_fit r.kind r.letters && fields_fit r

-- its bytes, where its fields fit
abbrev pub spelled : Record → Result (List ℕ) Unfit
spelled r = cond (fields_fit r) (Ok (record_bytes r)) (Err (record {}))

-- RULES 9.5: 21 for a buffer under 74 bytes, judged first; 20 for what does not fit; on success the record stands in the first 74
-- bytes and nothing else changes; on a refusal nothing does
pub record Written (before : List ℕ) (r : Record) (number : ℕ) (after : List ℕ) : Type 0 where
  pub answer : number ≡ cond (leb 74 (length before)) (cond (fits_all r) 0 20) 21
  pub buffer : after ≡ cond (leb 74 (length before) && fits_all r) (record_bytes r ++ drop 74 before) before
