-- What a record's bytes say (RULES 9.4, the reader), over any layout. Assumes nothing.
--   letters_right a b c x y  whether the letters x, y are those due: a, and b or c
--   fault_of f s     the refusal that field f of the record s gives: 0, 3 or 5
--   letters_in k s   the letters of a record of kind k: 1 or 2 for an H, 0 for any other
--   code_in s c w     the code in the w columns of the record s from column c on
--   numbers_in, name_in, marks_in  what the field adds to the record's numbers, its name and its marks
--   first_fault L s  the first refusal along the layout L, with its column
--   reading_of k s    the answer to a record of kind k: its value, or a refusal's number and place
--   value_told k x    the value of the answer x to a record of kind k, also where it is a refusal
use Rattle.std.specs.Prelude.{Bool, true, false, cond, ◌&&◌, ◌||◌, List, [], ◌∷◌, ◌++◌, ℕ, zero, suc, eqb, ℤ, pos, length, get_or, replicate}
use Rattle.std.specs.Prelude.{Option, Some, None, Result, Ok, Err}
use Rattle.std.proofs.lemmas.List.Edits.{sets}
use Rattle.fields.specs.Place.{bytes_at}
use Rattle.fields.specs.Number.{number_at}
use Rattle.fields.specs.Text.{is_name, is_blanks, text_at}
use Rattle.fields.specs.Answer.{number_refusal, value_of, text_refusal}
use Rattle.codes.specs.Code.{code_at, code_refusal, code_value, code_mark}
use Rattle.codes.specs.declared.Code as codes
use Rattle.permitted.specs.Permitted.{is}
use Rattle.records.specs.declared.Kind.{Kind}
use Rattle.records.specs.declared.Kind.TheVariants.{Mesh, Layer, Node, Line, Coordinates, Area, Loop}
use Rattle.records.specs.declared.Field.{Field}
use Rattle.records.specs.declared.Field.TheVariants.{Letters, Number, Code, Name, Blank}
use Rattle.records.specs.declared.Record.{Record}
use Rattle.records.specs.declared.Misread.{Misread}
use Rattle.records.specs.Layout.{layout_of, start_of}

-- ---- one field

-- a and then b or c are due, and x, y stand there
abbrev pub letters_right : ℕ → ℕ → ℕ → ℕ → ℕ → Bool
letters_right a b c x y = eqb x a && (eqb y b || eqb y c)

-- RULES 6.4: 3 for letters that are not those due
abbrev pub letters_fault : ℕ → ℕ → ℕ → ℕ → ℕ → ℕ
letters_fault a b c x y = cond (letters_right a b c x y) 0 3

-- RULES 4.8: the letters of an H are 1 for H1 and 2 for H2
unfoldable pub head_letters : List ℕ → ℕ
head_letters s = cond (eqb (get_or s 1 0) 49) 1 2

-- RULES 1.7: an H is the kind that has letters of two sorts
abbrev pub is_head : Kind → Bool
is_head Mesh = false
is_head Layer = true
is_head Node = false
is_head Line = false
is_head Coordinates = false
is_head Area = false
is_head Loop = false

-- RULES 4.8: what a kind lacks is 0
abbrev pub letters_in : Kind → List ℕ → ℕ
letters_in k s = cond (is_head k) (head_letters s) 0

-- RULES 3.6: the record's layer code, in columns 3-4, reads 5
unfoldable pub in_layer_five : List ℕ → Bool
in_layer_five s = is 5 (value_of (number_at s 3 2))

-- RULES 3.6, 9.5: a mark stands in layer 5 alone
abbrev pub mark_fits : Bool → ℕ → Bool
mark_fits five zero = true
mark_fits five (suc m) = five

abbrev pub landed : Bool → Option codes.Code → Option codes.Code
landed five (Some k) = cond (mark_fits five k.mark) (Some k) None
landed five None = None

unfoldable pub code_in : List ℕ → ℕ → ℕ → Option codes.Code
code_in s c w = landed (in_layer_five s) (code_at s c w)

-- RULES 3.5: an ill-formed field is 5
unfoldable pub fault_of : Field → List ℕ → ℕ
fault_of (Letters a b c) s = letters_fault a b c (get_or s 0 0) (get_or s 1 0)
fault_of (Number c w) s = number_refusal (number_at s c w)
fault_of (Code c w) s = code_refusal (code_in s c w)
fault_of (Name c w) s = text_refusal (text_at is_name s c w)
fault_of (Blank c w) s = text_refusal (text_at is_blanks s c w)

-- RULES 4.8: a record's numbers in column order, its name bytes, and the marks of its codes
unfoldable pub numbers_in : Field → List ℕ → List ℤ
numbers_in (Letters a b c) s = []
numbers_in (Number c w) s = value_of (number_at s c w) ∷ []
numbers_in (Code c w) s = code_value (code_in s c w) ∷ []
numbers_in (Name c w) s = []
numbers_in (Blank c w) s = []

unfoldable pub name_in : Field → List ℕ → List ℕ
name_in (Letters a b c) s = []
name_in (Number c w) s = []
name_in (Code c w) s = []
name_in (Name c w) s = bytes_at s c w
name_in (Blank c w) s = []

unfoldable pub marks_in : Field → List ℕ → List ℕ
marks_in (Letters a b c) s = []
marks_in (Number c w) s = []
marks_in (Code c w) s = code_mark (code_in s c w) ∷ []
marks_in (Name c w) s = []
marks_in (Blank c w) s = []

-- ---- all fields of a layout, in column order

unfoldable pub over : {A : Type 0} → (Field → List ℕ → List A) → List Field → List ℕ → List A
over g [] s = []
over g (f ∷ fs) s = g f s ++ over g fs s

-- a refusal's number and column; 0 and 0 where there is none
pub record Fault : Type 0 where
  pub number : ℕ
  pub column : ℕ

abbrev pub no_fault : Fault
no_fault = record { number = 0; column = 0 }

-- the fault n at column c, or p where n is 0
abbrev pub fault_at : ℕ → ℕ → Fault → Fault
fault_at zero c p = p
fault_at (suc n) c p = record { number = suc n; column = c }

-- RULES 9.4: the first field with a fault, at the column where it starts
unfoldable pub first_fault : List Field → List ℕ → Fault
first_fault [] s = no_fault
first_fault (f ∷ fs) s = fault_at (fault_of f s) (start_of f) (first_fault fs s)

-- ---- the record

-- RULES 4.8: room for 16 numbers, 40 name bytes, 2 marks and the letters; what a kind lacks is 0
abbrev pub zeros : List ℤ
zeros = replicate 16 (pos 0)

abbrev pub no_name : List ℕ
no_name = replicate 40 0

abbrev pub unmarked : List ℕ
unmarked = replicate 2 0

-- RULES 9.4: refused, the value is the named kind with all else 0
abbrev pub zeroed : Kind → Record
zeroed k = record { kind = k; numbers = zeros; name = no_name; marks = unmarked; letters = 0 }

-- RULES 9.4: a refused reading has a number, a place and that value; the record's number is 1
abbrev pub refused_at : Kind → ℕ → ℕ → Result Record Misread
refused_at k n c = Err (record { number = n; place = 1; column = c; value = zeroed k })

-- the value of a reading, accepted or refused
abbrev pub value_told : Result Record Misread → Record
value_told (Ok r) = r
value_told (Err m) = m.value

-- RULES 4.8: a record's value is its kind, its numbers, its name bytes, its marks and its letters
abbrev pub value_in : Kind → List ℕ → Record
value_in k s = record {
  kind = k;
  numbers = sets zeros 0 (over numbers_in (layout_of k) s);
  name = sets no_name 0 (over name_in (layout_of k) s);
  marks = sets unmarked 0 (over marks_in (layout_of k) s);
  letters = letters_in k s;
}

abbrev pub fields_by : Kind → List ℕ → ℕ → ℕ → Result Record Misread
fields_by k s zero c = Ok (value_in k s)
fields_by k s (suc n) c = refused_at k (suc n) c

unfoldable pub fields_of : Kind → List ℕ → Result Record Misread
fields_of k s = fields_by k s (first_fault (layout_of k) s).number (first_fault (layout_of k) s).column

-- RULES 9.4: not 74 bytes is 1 at column 1; then 2, at the first wrong one of columns 73 and 74; then the fields
unfoldable pub reading_of : Kind → List ℕ → Result Record Misread
reading_of k s =
    cond (eqb (length s) 74)
    (cond (eqb (get_or s 72 0) 13) (cond (eqb (get_or s 73 0) 10) (fields_of k s) (refused_at k 2 74)) (refused_at k 2 73))
    (refused_at k 1 1)
