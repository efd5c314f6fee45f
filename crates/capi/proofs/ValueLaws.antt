-- Records over C's values. A kind's number stands for it and for no other, by the list of kinds; so what is read has the number that the
-- caller named, and both round trips of records hold of the values. Assumes nothing.
use mathlib.Core.Bool.{true}
use mathlib.Core.List.{List}
use mathlib.Core.Path.{◌≡◌, refl, ◌∙◌}
use Prim.Native.Nat.{ℕ, zero, suc}
use native.Mathlib.Omega.{arith}
use Rattle.records.specs.declared.Kind.{Kind}
use Rattle.records.specs.declared.Kind.TheVariants.{Mesh, Layer, Node, Line, Coordinates, Area, Loop}
use Rattle.records.specs.declared.Misread.{Misread}
use Rattle.std.specs.Prelude.{Option, Some, None, Result, Ok, Err}
use Rattle.records.specs.declared.Record.{Record}
use Rattle.records.specs.Reading.{value_told, reading_of}
use Rattle.records.specs.Writing.{record_bytes, fits_all}
use Rattle.records.proofs.RecordLaws.{Sized, written_then_read, read_then_written, reading_nonzero, value_sized, reading_kind}
use Rattle.capi.specs.declared.Value.{Value}
use Rattle.capi.specs.Values.{meant_by, kind_number, meant_record, given_value, found_in, found_by, found_of}

-- a kind's number stands for the kind
pub number_meant : (k : Kind) → meant_by (kind_number k) ≡ Some k
unfolding meant_by
number_meant Mesh = refl
number_meant Layer = refl
number_meant Node = refl
number_meant Line = refl
number_meant Coordinates = refl
number_meant Area = refl
number_meant Loop = refl

-- and no other number does
pub meant_number : (n : ℕ) (k : Kind) → meant_by n ≡ Some k → kind_number k ≡ n
unfolding meant_by
meant_number zero k e = let z : ◌≡◌ {A = ℕ} 0 1 = cc in absurd (omega arith)
meant_number (suc zero) k e = let z : k ≡ Mesh = cc in rw z
meant_number (suc (suc zero)) k e = let z : k ≡ Layer = cc in rw z
meant_number (suc (suc (suc zero))) k e = let z : k ≡ Node = cc in rw z
meant_number (suc (suc (suc (suc zero)))) k e = let z : k ≡ Line = cc in rw z
meant_number (suc (suc (suc (suc (suc zero))))) k e = let z : k ≡ Coordinates = cc in rw z
meant_number (suc (suc (suc (suc (suc (suc zero)))))) k e = let z : k ≡ Area = cc in rw z
meant_number (suc (suc (suc (suc (suc (suc (suc zero))))))) k e = let z : k ≡ Loop = cc in rw z
meant_number (suc (suc (suc (suc (suc (suc (suc (suc n)))))))) k e = let z : ◌≡◌ {A = ℕ} 0 1 = cc in absurd (omega arith)

-- ---- what is read has the number that the caller named, also where it is refused

kind_in : (x : Result Record Misread) → (found_in x).value.kind ≡ kind_number (value_told x).kind
kind_in (Ok r) = refl
kind_in (Err m) = refl

module _ (n : ℕ) (k : Kind) (e : meant_by n ≡ Some k) (s : List ℕ) where
  found_in_lem : found_of n s ≡ found_in (reading_of k s)
  unfolding found_of
  found_in_lem = rw e

  pub found_kind : (found_of n s).value.kind ≡ n
  found_kind = rw (found_in_lem, kind_in (reading_of k s), reading_kind k s) (meant_number n k e)

-- ---- the round trips

-- WRITTEN THEN READ: a value that is written is what is read
pub value_written_then_read : (v : Value) (k : Kind) → meant_by v.kind ≡ Some k → Sized (meant_record k v) → fits_all (meant_record k v) ≡ true
    → found_of v.kind (record_bytes (meant_record k v)) ≡ record { number = 0; place = 0; column = 0; value = v }
value_written_then_read v k e z f =
    found_in_lem v.kind k e (record_bytes (meant_record k v)) ∙ rw (written_then_read (meant_record k v) z f, meant_number v.kind k e)

again : (r : Record) (k : Kind) → r.kind ≡ k → meant_record k (given_value r) ≡ r
again r k e = rw (← e)

-- READ THEN WRITTEN: a value that was read fits, and is written as the bytes that were read
pub value_read_then_written : (n : ℕ) (k : Kind) (e : meant_by n ≡ Some k) (s : List ℕ) → (found_of n s).number ≡ 0
    → (fits_all (meant_record k (found_of n s).value) ≡ true) × (record_bytes (meant_record k (found_of n s).value) ≡ s)
value_read_then_written n k e s h = rw (found_in_lem n k e s) (by (reading_of k s) refl (rw (found_in_lem n k e s) at h))
  where
    by : (x : Result Record Misread) → reading_of k s ≡ x → (found_in x).number ≡ 0
        → (fits_all (meant_record k (found_in x).value) ≡ true) × (record_bytes (meant_record k (found_in x).value) ≡ s)
    by (Ok r) q h = let w = read_then_written k s r q in rw (again r k w.2) (w.0, w.1)
    by (Err m) q h = absurd (reading_nonzero k s q h)

-- what is told as read has all its entries, also where it is refused
pub found_sized : (n : ℕ) (s : List ℕ) (k : Kind) → Sized (meant_record k (found_of n s).value)
unfolding found_of
found_sized n s k = by (meant_by n)
  where
    in_kind : (x : Result Record Misread) → Sized (value_told x) → Sized (meant_record k (found_in x).value)
    in_kind (Ok r) z = record { numbers = z.numbers; name = z.name; marks = z.marks }
    in_kind (Err m) z = record { numbers = z.numbers; name = z.name; marks = z.marks }

    by : (m : Option Kind) → Sized (meant_record k (found_by m s).value)
    by (Some j) = in_kind (reading_of j s) (value_sized j s)
    by None = record { numbers = refl; name = refl; marks = refl }
