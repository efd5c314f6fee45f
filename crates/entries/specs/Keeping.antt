-- The line measures of a layer, kept so that no line is walked once for each loop that names it. It serves the code and is no part of a
-- promise. Assumes nothing.
--   walked_to file t l n  what the code measures of the layer's first n lines
--   possible_of z         z where a line of an accepted file can measure so much, else 0
--   kept_measure l ms n   what the list ms, line 1 first, says of the layer's line n; 0 where it says nothing or n names no line
--   kept_loop file l ms f  the measure of the loop whose first record is f, by these
--   Kept file t l ms      ms says each line's measure
--   SoundLayer file t l   the layer's lines are no more than are kept, and well formed
use Rattle.std.specs.Prelude.{cond, List, ◌≡◌, ℕ, ◌+◌, ◌-◌, ◌≤◌, ◌<◌, leb, ℤ, pos, nat_abs, get_or}
use Rattle.layers.specs.declared.Layer.{Layer}
use Rattle.layers.specs.Naming.{names_line}
use Rattle.measures.specs.Measures.{loop_measure}
use Rattle.measures.specs.Points.{first_of, measure_by}
use Rattle.measures.specs.Sound.{Sound, added_up}
use Rattle.entries.specs.Entries.{loop_at}
use Rattle.entries.specs.Loops.{measure_of}

-- measured without a test of a byte
unfoldable pub walked_to : List ℕ → List ℕ → Layer → ℕ → List ℤ
walked_to file t l n = first_of (λ i. measure_by added_up file (get_or t (l.line + i) 0)) n

-- 999,999 points at most, and each step at most 2 * 10^8 either way
unfoldable pub possible_of : ℤ → ℤ
possible_of z = cond (leb (nat_abs z) 200000000000000) z (pos 0)

-- so it is small, whatever the list has, and no sum that the code makes of it can grow too large
unfoldable pub kept_measure : Layer → List ℤ → ℕ → ℤ
kept_measure l ms n = cond (names_line l.lines (pos n)) (possible_of (get_or ms (n - 1) (pos 0))) (pos 0)

unfoldable pub kept_loop : List ℕ → Layer → List ℤ → ℕ → ℤ
kept_loop file l ms f = loop_measure (kept_measure l ms) (loop_at file f)

pub record Kept (file t : List ℕ) (l : Layer) (ms : List ℤ) : Type 0 where
  pub kept : (n : ℕ) → kept_measure l ms n ≡ measure_of file t l n

-- an H counts no more than 9999 lines
pub record SoundLayer (file t : List ℕ) (l : Layer) : Type 0 where
  pub few : l.lines ≤ 9999
  pub sound : (i : ℕ) → i < l.lines → Sound file (get_or t (l.line + i) 0)
