-- Measures (RULES 7: X runs east, Y north; all are doubled areas, with a sign), of points, entries and loops.
-- Assumes nothing.
--   line_measure ps  of a line with the points ps
--   loop_measure m es of a loop with the entries es, where m gives each line's measure
--   area_measure m ls of an area with the loops ls
--   outside l r z    what a line adds to its layer's outside sum: its left and right area, and its measure
use Rattle.std.specs.Prelude.{cond, List, [], ◌∷◌, ℕ, eqb, ℤ, pos, neg_ℤ, ◌-ℤ◌, ◌*ℤ◌}
use Rattle.measures.specs.Sum.{sum}

pub record Point : Type 0 where
  pub x : ℤ
  pub y : ℤ

-- two successive points
pub record Step : Type 0 where
  pub from : Point
  pub to : Point

unfoldable pub steps : List Point → List Step
steps [] = []
steps (p ∷ []) = []
steps (p ∷ q ∷ ps) = record { from = p; to = q } ∷ steps (q ∷ ps)

-- RULES 7.1: x2*y1 - x1*y2
abbrev pub cross : Point → Point → ℤ
cross p q = (q.x *ℤ p.y) -ℤ (p.x *ℤ q.y)

-- RULES 7.1: a line's measure is the sum of that over each two points that follow one another
unfoldable pub line_measure : List Point → ℤ
line_measure ps = sum (λ s. cross s.from s.to) (steps ps)

-- RULES 1.2: an entry of a loop: +n, line n forwards, or -n, line n backwards
pub data Entry : Type 0 where
  plus : ℕ → Entry
  minus : ℕ → Entry

-- RULES 7.2: +n adds line n's measure, -n takes it away
abbrev pub entry_measure : (ℕ → ℤ) → Entry → ℤ
entry_measure m (plus n) = m n
entry_measure m (minus n) = neg_ℤ (m n)

-- RULES 7.2: a loop's measure is the sum over its entries
unfoldable pub loop_measure : (ℕ → ℤ) → List Entry → ℤ
loop_measure m es = sum (entry_measure m) es

-- RULES 7.3: an area's measure is the sum of its loops'
unfoldable pub area_measure : (ℕ → ℤ) → List (List Entry) → ℤ
area_measure m ls = sum (loop_measure m) ls

-- RULES 7.4: the outside sum adds the measure of a line whose left area is 0 and whose right area is not, and takes away that of one
-- whose right area is 0 and whose left area is not
abbrev pub outside : ℕ → ℕ → ℤ → ℤ
outside l r z = cond (eqb l 0) (cond (eqb r 0) (pos 0) z) (cond (eqb r 0) (neg_ℤ z) (pos 0))
