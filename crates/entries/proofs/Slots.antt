-- Loop records and their counts: a number of width 4 is at most 9999, and every number of a record that the file has not is 0.
-- Assumes nothing.
use mathlib.Core.List.{List}
use mathlib.Core.Path.{◌≡◌}
use Prim.Native.Nat.{ℕ, ◌/◌, ◌^◌, ◌≤◌, ◌<◌}
use native.Mathlib.Omega.{arith}
use lib.IntN.{ℤ}
use lib.ListN.{length}
use lib.Signed.{mag}
use mir.Syntax.{w32}
use mir.Val.{to_z, of_z, hbits}
use Rattle.fields.proofs.FieldLaws.{number_digits}
use Rattle.records.specs.View.{record_of, number_in}
use Rattle.records.proofs.Numbers.{record_past, number_none}
use Rattle.permitted.specs.Permitted.{size}
use Rattle.links.proofs.Numbers.{told}
use Rattle.entries.specs.Entries.{records_for, loops_at, records_to, slots_of}

-- ---- a number of width 4

-- it has at most four digits, whatever stands there
pub four_digits : (file : List ℕ) (k c : ℕ) → size (number_in file k c 4) ≤ 9999
unfolding number_in
four_digits file k c = omega (arith, number_digits (record_of file k) c 4)

-- the answer r of `size` about the number z that stands there
pub four_told : (file : List ℕ) (k c : ℕ) {z : ℤ} {r : ℕ} → mag z < 2 ^ hbits w32 → z ≡ number_in file k c 4 → r ≡ size (to_z w32 (of_z w32 z))
    → (r ≡ size (number_in file k c 4)) × (r ≤ 9999)
four_told file k c f e h =
    let t = told size f e h in
    (t, rw t (four_digits file k c))

-- ---- a record that the file has not

pub slots_none : (file : List ℕ) (a : ℕ) → length file / 74 < a → slots_of file a ≡ 0
unfolding slots_of loops_at records_to
slots_none file a h = rw (number_none file a 25 4 (record_past file a h))

-- ---- records

-- a loop of at most 9999 lines has at most 834 records
pub records_few : (n : ℕ) → n ≤ 9999 → records_for n ≤ 834
unfolding records_for
records_few n h = omega arith
