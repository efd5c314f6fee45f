-- The records of C: a kind is a number there (RULES 9.7; 4.8, 9.4, 9.5). Assumes nothing.
--   meant_by n        the kind that the number n stands for, if it stands for one: 1 M, 2 H, 3 N, 4 L, 5 coordinates, 6 A, 7 loop
--   kind_number k     the number that stands for the kind k
--   owed_number o     what is told of a record, by number
--   meant_record k v   the value v as a record of kind k, and given_value r the record r with its kind as a number
--   found_of n s     the answer to the bytes s, read as a record of the kind that n stands for
--   WrittenValue     the writer's answer and its buffer afterwards
use Rattle.std.specs.Prelude.{◌≡◌, cond, List, [], ◌∷◌, ℕ, leb, length, get_or, Option, Some, None, Result, Ok, Err}
use Rattle.records.specs.declared.Kind.{Kind}
use Rattle.records.specs.declared.Kind.TheVariants.{Mesh, Layer, Node, Line, Coordinates, Area, Loop}
use Rattle.records.specs.declared.Record.{Record}
use Rattle.records.specs.declared.Misread.{Misread}
use Rattle.records.specs.Reading.{zeros, no_name, unmarked, reading_of}
use Rattle.records.specs.Writing.{Written}
use Rattle.capi.specs.declared.Value.{Value}
use Rattle.capi.specs.declared.Found.{Found}

-- ---- the kinds by number

-- RULES 9.7: in the order of RULES 4.1 to 4.7, from number 0 on, which stands for none
abbrev pub kinds : List (Option Kind)
kinds = None ∷ Some Mesh ∷ Some Layer ∷ Some Node ∷ Some Line ∷ Some Coordinates ∷ Some Area ∷ Some Loop ∷ []

unfoldable pub meant_by : ℕ → Option Kind
meant_by n = get_or kinds n None

abbrev pub kind_number : Kind → ℕ
kind_number Mesh = 1
kind_number Layer = 2
kind_number Node = 3
kind_number Line = 4
kind_number Coordinates = 5
kind_number Area = 6
kind_number Loop = 7

-- RULES 9.10: the kind that is due by its number, and 0 for nothing
abbrev pub owed_number : Option Kind → ℕ
owed_number (Some k) = kind_number k
owed_number None = 0

-- RULES 4.8: a record's value is its kind, its numbers in column order, its name bytes, the marks of its codes and the letters of an H
abbrev pub meant_record : Kind → Value → Record
meant_record k v = record { kind = k; numbers = v.numbers; name = v.name; marks = v.marks; letters = v.letters }

abbrev pub given_value : Record → Value
given_value r = record { kind = kind_number r.kind; numbers = r.numbers; name = r.name; marks = r.marks; letters = r.letters }

-- ---- reading

-- RULES 6.1: acceptance is number 0 at 0, 0; 9.4: refused, the value is the named kind with all else 0
abbrev pub found_in : Result Record Misread → Found
found_in (Ok r) = record { number = 0; place = 0; column = 0; value = given_value r }
found_in (Err m) = record { number = m.number; place = m.place; column = m.column; value = given_value m.value }

-- RULES 9.7: a number that stands for no kind is 3 at record 1, column 1, whatever the bytes: no letters are those of a kind that there isn't. All else is 0
abbrev pub no_kind : Found
no_kind = record {
  number = 3;
  place = 1;
  column = 1;
  value = record { kind = 0; numbers = zeros; name = no_name; marks = unmarked; letters = 0 };
}

abbrev pub found_by : Option Kind → List ℕ → Found
found_by (Some k) s = found_in (reading_of k s)
found_by None s = no_kind

-- RULES 9.4: a single record of the kind that the caller names
unfoldable pub found_of : ℕ → List ℕ → Found
found_of n s = found_by (meant_by n) s

-- ---- writing

-- RULES 9.5, 9.7: 21 where the buffer has under 74 bytes, judged first; a value of no kind doesn't fit, and the buffer is untouched
pub record NotWritten (before : List ℕ) (number : ℕ) (after : List ℕ) : Type 0 where
  pub answer : number ≡ cond (leb 74 (length before)) 20 21
  pub buffer : after ≡ before

abbrev pub WrittenBy : Option Kind → List ℕ → Value → ℕ → List ℕ → Type 0
WrittenBy (Some k) before v number after = Written before (meant_record k v) number after
WrittenBy None before v number after = NotWritten before number after

-- RULES 9.5: the writer's answer and its buffer behind it
unfoldable pub WrittenValue : List ℕ → Value → ℕ → List ℕ → Type 0
WrittenValue before v number after = WrittenBy (meant_by v.kind) before v number after
