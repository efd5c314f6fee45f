-- What is told of the records of sheet S and of its neighbours (RULES 9.10, 11), computed. Assumes nothing.
use mathlib.Core.List.{List, [], ◌∷◌, ◌++◌, map}
use mathlib.Core.Path.{◌≡◌, refl}
use Prim.Native.Nat.{ℕ, ◌*◌}
use lib.ListN.{take, drop}
use Rattle.std.specs.Prelude.{Option, Some, None}
use Rattle.records.specs.declared.Kind.{Kind}
use Rattle.records.specs.declared.Kind.TheVariants.{Mesh, Layer, Node, Line, Coordinates, Area, Loop}
use Rattle.dues.specs.Dues.{due_at}
use Rattle.sheets.specs.Sheets.{sheet_s, with_mesh}
use Rattle.sheets.proofs.Sheets.{writing, walking}

-- of the records 0 to 9
abbrev owed_of : List ℕ → List (Option Kind)
owed_of file = map (due_at file) (0 ∷ 1 ∷ 2 ∷ 3 ∷ 4 ∷ 5 ∷ 6 ∷ 7 ∷ 8 ∷ 9 ∷ [])

-- up to its coordinates S has one record of each kind, in this order; then come those that are given
abbrev begun : List (Option Kind) → List (Option Kind)
begun more = None ∷ Some Mesh ∷ Some Layer ∷ Some Node ∷ Some Line ∷ Some Coordinates ∷ Some Area ∷ more

-- S without its record 5: an A stands where the line's coordinates are due
abbrev without_five : List ℕ
without_five = take (74 * 4) sheet_s ++ drop (74 * 5) sheet_s

-- S: M H N L coordinates A loop, and an M where the file ends. Without record 5: coordinates are told where the A stands, and an A where the loop
-- does; that counts no loops in the columns of an A, and the mesh has ended. With layers 2: an H where the file ends. An empty file: an M
pub sheet_dues :
    (owed_of sheet_s ≡ begun (Some Loop ∷ Some Mesh ∷ None ∷ []))
    × (owed_of without_five ≡ begun (Some Mesh ∷ None ∷ None ∷ []))
    × (owed_of (with_mesh 533945 2 6) ≡ begun (Some Loop ∷ Some Layer ∷ None ∷ []))
    × (owed_of [] ≡ None ∷ Some Mesh ∷ None ∷ None ∷ None ∷ None ∷ None ∷ None ∷ None ∷ None ∷ [])
unfolding writing walking due_at
sheet_dues = (refl, refl, refl, refl)
