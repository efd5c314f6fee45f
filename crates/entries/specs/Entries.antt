-- The entries of a loop and of an area (RULES 2.3, 2.6, 4.7): a loop record has its line count and twelve slots,
-- and a loop of n lines takes n/12 records, rounded up. An area's loops follow its A one after another, so its slots stand in one
-- row, twelve a record. A slot that is 0 is no entry (RULES 1.3); those past the count are 0 (RULES 5.9). Assumes nothing.
--   slot_of file f e      slot e, counted from 0, of the loop records from record f on (links)
--   entries_to file f n  the entries in the first n of these slots
--   count_at, loops_at   a loop's line count; how many loops an A has
--   records_for n        the records of a loop of n lines
--   records_to file a n  the records of the first n loops of the A at record a
--   slots_of file a       how many slots the area has
--   loop_at, loops_to    the entries of the loop whose first record is f; those of the area's first n loops
use Rattle.std.specs.Prelude.{List, [], ◌∷◌, ◌++◌, ℕ, zero, suc, ◌+◌, ◌*◌, ◌-◌, ◌/◌, ℤ, pos, negsuc}
use Rattle.records.specs.Columns.{area_loops, loop_count, value_at}
use Rattle.permitted.specs.Permitted.{size}
use Rattle.measures.specs.Measures.{Entry, plus, minus}
unfoldable pub use Rattle.links.specs.Links.{slot_of}

-- RULES 1.2, 1.3: +n, -n, or none
abbrev pub entry_of : ℤ → List Entry
entry_of (pos zero) = []
entry_of (pos (suc n)) = plus (suc n) ∷ []
entry_of (negsuc n) = minus (suc n) ∷ []

unfoldable pub entries_to : List ℕ → ℕ → ℕ → List Entry
entries_to file f zero = []
entries_to file f (suc n) = entries_to file f n ++ entry_of (slot_of file f n)

-- ---- records

-- RULES 2.6: n/12, rounded up; a loop that counts no line has its one record
unfoldable pub records_for : ℕ → ℕ
records_for n = (n - 1) / 12 + 1

-- RULES 4.7: a loop's line count
unfoldable pub count_at : List ℕ → ℕ → ℕ
count_at file f = size (value_at file f loop_count)

-- RULES 4.6: an A's loops
unfoldable pub loops_at : List ℕ → ℕ → ℕ
loops_at file a = size (value_at file a area_loops)

-- RULES 2.3, 2.6: each loop begins behind the one before it, the first behind the A
unfoldable pub records_to : List ℕ → ℕ → ℕ → ℕ
records_to file a zero = 0
records_to file a (suc n) = records_to file a n + records_for (count_at file (a + 1 + records_to file a n))

-- RULES 4.7: twelve a record, of all its loops
unfoldable pub slots_of : List ℕ → ℕ → ℕ
slots_of file a = 12 * records_to file a (loops_at file a)

-- ---- loops

-- RULES 2.6, 4.7: a loop's entries are those in the slots of its records
unfoldable pub loop_at : List ℕ → ℕ → List Entry
loop_at file f = entries_to file f (12 * records_for (count_at file f))

-- RULES 1.2, 2.3: an area's loops, its first one first
unfoldable pub loops_to : List ℕ → ℕ → ℕ → List (List Entry)
loops_to file a zero = []
loops_to file a (suc n) = loops_to file a n ++ (loop_at file (a + 1 + records_to file a n) ∷ [])
