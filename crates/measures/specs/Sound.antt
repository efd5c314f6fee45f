-- Lines whose coordinates are well formed and permitted, so that the code may read them without a test: it adds up the remainders of their
-- bytes. Assumes nothing.
--   SoundAt s c z    the coordinate z at column c of the record s is a well formed number from 0 to 10000
--   Sound file r     so is every coordinate of the line whose L is record r
--   added_up s c     the remainders of the bytes of the coordinate that starts at column c of s, added up
use Rattle.std.specs.Prelude.{List, ◌≡◌, ℕ, ◌+◌, ◌/◌, ◌%◌, ◌≤◌, ◌<◌, ℤ, pos, Some}
use Rattle.glances.specs.Glimpse.{remainders_at}
use Rattle.fields.specs.Number.{number_at}
use Rattle.records.specs.View.{record_of}
use Rattle.records.specs.Columns.{points_x, points_y, slot_column}
use Rattle.measures.specs.Points.{point_count, point_at}

-- RULES 5.5: a coordinate is 0 to 10000
pub record SoundAt (s : List ℕ) (c : ℕ) (z : ℤ) : Type 0 where
  pub value : ℕ
  pub permitted : value ≤ 10000
  pub said : number_at s c 5 ≡ Some (pos value)
  pub is : z ≡ pos value

-- point i stands in the coordinate record i / 7 behind the L, counted from 0, as its pair i % 7
pub record Sound (file : List ℕ) (r : ℕ) : Type 0 where
  pub east : (i : ℕ) → i < point_count file r → SoundAt (record_of file (r + 1 + i / 7)) (slot_column points_x (i % 7)) (point_at file r i).x
  pub north : (i : ℕ) → i < point_count file r → SoundAt (record_of file (r + 1 + i / 7)) (slot_column points_y (i % 7)) (point_at file r i).y

-- ---- as the code reads a coordinate

unfoldable pub added_up : List ℕ → ℕ → ℤ
added_up s c = pos (remainders_at s c 5)
