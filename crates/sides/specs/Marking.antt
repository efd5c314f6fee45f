-- Which area listed an entry last, so that no area is searched for each line. It serves the code and is no part of a promise.
-- Assumes nothing.
use Rattle.std.specs.Prelude.{Bool, true, cond, ◌&&◌, List, ◌≡◌, ℕ, ◌+◌, ◌*◌, ◌≤◌, ◌<◌, leb, ltb, eqb, length, get_or, set}
use Rattle.rules.specs.declared.Due.{Due}
use Rattle.rules.specs.declared.Due.TheVariants.{Mesh, Layer, Node, Line, Coordinates, Area, Loop}
use Rattle.sides.specs.Sides.{lists}

-- where +n or, backwards, -n leaves its mark: two places for each line
abbrev pub mark_at : Bool → ℕ → ℕ
mark_at back n = 2 * n + cond back 1 0

-- a mark is 0, or the A record of an area that lists the entry
pub record Marks (file marks : List ℕ) : Type 0 where
  pub marked : (back : Bool) (n : ℕ) → mark_at back n < length marks → 0 < get_or marks (mark_at back n) 0 → lists file (get_or marks (mark_at back n) 0) back n ≡ true

-- the mark a at place i, if there is one
unfoldable pub put_mark : List ℕ → ℕ → ℕ → List ℕ
put_mark marks i a = cond (ltb i (length marks)) (set marks i a) marks

-- +n or, backwards, -n bears the mark a, which is a record
unfoldable pub bears : List ℕ → Bool → ℕ → ℕ → Bool
bears marks back n a = leb n 999999 && (ltb (mark_at back n) (length marks) && (ltb 0 a && eqb (get_or marks (mark_at back n) 0) a))

-- the line that is due can be counted
abbrev pub LineCountable : Due → Type 0
LineCountable (Mesh last) = Unit {0}
LineCountable (Layer last) = Unit {0}
LineCountable (Node layer last) = Unit {0}
LineCountable (Line layer last letters) = last ≤ 999999
LineCountable (Coordinates left) = Unit {0}
LineCountable (Area layer last) = Unit {0}
LineCountable (Loop last count left) = Unit {0}
