-- Quiet records: N and coordinates. Stages 3, 5 and 6 and the table ask nothing of them, so the code passes a run of them in one step.
-- It serves the code's speed and is no part of a promise. Assumes nothing.
--   is_quiet d         the record is quiet
--   passed s h         the state behind the next h records, which are quiet
--   Quiet s h          they are: coordinates where points are left, else nodes
--   quiet_ahead s      how many of them come next
--   counted_past c s h  the counts with them
--   fine_ahead file points k m  of the m records behind the first k, how many from the first on are the next ones of a line with so many
--                      points left, and keep the rules of stage 2
use Rattle.std.specs.Prelude.{Bool, true, false, cond, ◌&&◌, ◌||◌, List, ◌≡◌, ℕ, zero, suc, ◌+◌, ◌-◌, ◌*◌, ◌/◌, ◌<◌, ltb}
use Rattle.verdict.specs.Rules.{first_broken, is_fine, block}
use Rattle.records.specs.View.{record_of}
use Rattle.rules.specs.Checks.{checks_of}
use Rattle.rules.specs.declared.Due.{Due}
use Rattle.rules.specs.declared.Due.TheVariants.{Mesh, Layer, Node, Line, Coordinates, Area, Loop}
use Rattle.walk.specs.declared.State.{State}
use Rattle.walk.specs.declared.Counts.{Counts}
use Rattle.walk.specs.States.{nodes_more, points_less, due_of}

abbrev pub is_quiet : Due → Bool
is_quiet (Mesh last) = false
is_quiet (Layer last) = false
is_quiet (Node layer last) = true
is_quiet (Line layer last letters) = false
is_quiet (Coordinates left) = true
is_quiet (Area layer last) = false
is_quiet (Loop last count left) = false

-- how many of h are nodes
abbrev pub nodes_of : State → ℕ → ℕ
nodes_of s h = cond (ltb 0 s.line.points) 0 h

abbrev pub passed : State → ℕ → State
passed s h = record { mesh = s.mesh; layer = nodes_more s.layer (nodes_of s h); line = points_less s.line h; area = s.area }

-- what is due behind j of them
abbrev pub quiet_due : State → ℕ → Due
quiet_due s j = cond (ltb 0 s.line.points) (Coordinates (s.line.points - 7 * j)) (Node s.layer.code (s.layer.node + j))

pub record Quiet (s : State) (h : ℕ) : Type 0 where
  pub quiet : (j : ℕ) → j < h → due_of (passed s j) ≡ quiet_due s j

-- the state tells: the coordinate records of the points that are left, seven to a record; else none where entries or loops are left; else
-- the nodes that are left
unfoldable pub quiet_ahead : State → ℕ
quiet_ahead s =
    cond (ltb 0 s.line.points) ((s.line.points - 1) / 7 + 1)
    (cond (ltb 0 s.area.entries || ltb s.area.begun s.area.loops) 0 (s.layer.nodes - s.layer.node))

abbrev pub counted_past : Counts → State → ℕ → Counts
counted_past c s h = record { meshes = c.meshes; layers = c.layers; nodes = c.nodes + nodes_of s h; lines = c.lines; areas = c.areas; words = c.words }

-- record r of a file, as coordinates of a line with so many points left, keeps the rules of stage 2
abbrev pub is_fine_at : List ℕ → ℕ → ℕ → Bool
is_fine_at file points r = is_fine (first_broken (block 2 r (checks_of (Coordinates points) (record_of file r))))

unfoldable pub fine_ahead : List ℕ → ℕ → ℕ → ℕ → ℕ
fine_ahead file points k zero = 0
fine_ahead file points k (suc m) = cond (ltb 0 points && is_fine_at file points (k + 1)) (suc (fine_ahead file (points - 7) (k + 1) m)) 0
