-- On what it stands that no ground is lost (RULES 7.5): refusals 11, 13, 17 and 18 (RULES 6.7 to 6.9), of a layer's lines and of its areas'
-- entries. t is the file's table and l a layer. Assumes nothing.
--   LineKept file t l n      what stages 4 and 6 ask of the layer's line n
--   SlotKept file t l a x e  what stages 4 and 5 ask of slot e of the layer's area a, whose A is record x
--   LayerKept file t l       both, of all its lines and of all its areas' slots
use Rattle.std.specs.Prelude.{true, false, ◌||◌, not, List, ◌≡◌, ℕ, ◌+◌, ◌≤◌, ◌<◌, pos}
use Rattle.permitted.specs.Permitted.{is, is_zero}
use Rattle.layers.specs.declared.Layer.{Layer}
use Rattle.layers.specs.Naming.{names_line, area_of}
use Rattle.entries.specs.Entries.{slot_of, slots_of}
use Rattle.loops.specs.Loops.{repeats_area, area_on_hand}
use Rattle.sides.specs.Sides.{lists}
use Rattle.ground.specs.Layers.{left_area_of, right_area_of}

-- RULES 6.7, 6.9: a line: its sides' areas, 0 or one of the layer's (11), list it (18)
pub record LineKept (file t : List ℕ) (l : Layer) (n : ℕ) : Type 0 where
  pub left : left_area_of file t l n ≤ l.areas
  pub right : right_area_of file t l n ≤ l.areas
  pub left_lists : 0 < left_area_of file t l n → lists file (area_of t l (pos (left_area_of file t l n))) true n ≡ true
  pub right_lists : 0 < right_area_of file t l n → lists file (area_of t l (pos (right_area_of file t l n))) false n ≡ true

-- RULES 6.7, 6.8: a slot: empty, or the number of a line (11) that repeats none before it (13) and has the area on its right hand (17)
pub record SlotKept (file t : List ℕ) (l : Layer) (a x e : ℕ) : Type 0 where
  pub known : (is_zero (slot_of file (x + 1) e) || names_line l.lines (slot_of file (x + 1) e)) ≡ true
  pub once : (is_zero (slot_of file (x + 1) e) || not (repeats_area file x e)) ≡ true
  pub own : (is_zero (slot_of file (x + 1) e) || is a (area_on_hand file t l (slot_of file (x + 1) e))) ≡ true

pub record LayerKept (file t : List ℕ) (l : Layer) : Type 0 where
  pub lines : (n : ℕ) → 0 < n → n ≤ l.lines → LineKept file t l n
  pub slots : (a : ℕ) → 0 < a → a ≤ l.areas → (e : ℕ) → e < slots_of file (area_of t l (pos a)) → SlotKept file t l a (area_of t l (pos a)) e
