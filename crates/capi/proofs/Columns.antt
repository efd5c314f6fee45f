-- A reading's column: it is a field's first column, and none lies behind 74, since the fields of a layout stand in the columns 1 to 72.
-- Assumes nothing.
use mathlib.Core.Bool.{Bool, true, false, cond}
use mathlib.Core.List.{List, [], ◌∷◌}
use mathlib.Core.Path.{◌≡◌}
use Prim.Native.Nat.{ℕ, zero, suc, ◌+◌, ◌≤◌}
use native.Mathlib.Omega.{arith}
use lib.Dec.{eqb}
use lib.ListN.{length, get_or}
use Rattle.records.specs.declared.Field.{Field}
use Rattle.records.specs.declared.Kind.{Kind}
use Rattle.records.specs.declared.Misread.{Misread}
use Rattle.records.specs.declared.Record.{Record}
use Rattle.std.specs.Prelude.{Result, Ok, Err}
use Rattle.records.specs.Layout.{layout_of, start_of, width_of}
use Rattle.records.specs.Reading.{Fault, fault_of, fault_at, first_fault, fields_by, fields_of, reading_of}
use Rattle.records.proofs.Layouts.{tiles, tiled, tile, tiles_end}

at_small : (n c : ℕ) (p : Fault) → c ≤ 74 → p.column ≤ 74 → (fault_at n c p).column ≤ 74
at_small zero c p h l = l
at_small (suc n) c p h l = h

fault_small : (L : List Field) (c : ℕ) (s : List ℕ) → tiles c L ≡ true → (first_fault L s).column ≤ 74
unfolding first_fault
fault_small [] c s h = omega arith
fault_small (f ∷ L) c s h =
    let t = tile c f L h in
    at_small (fault_of f s) (start_of f) (first_fault L s)
    (omega (arith, t.start, tiles_end (f ∷ L) c h))
    (fault_small L (c + width_of f) s t.rest)

abbrev Small : Result Record Misread → Type 0
Small (Ok r) = Unit {0}
Small (Err m) = m.column ≤ 74

by_small : (k : Kind) (s : List ℕ) (n c : ℕ) → c ≤ 74 → Small (fields_by k s n c)
by_small k s zero c h = tt
by_small k s (suc n) c h = h

fields_small : (k : Kind) (s : List ℕ) → Small (fields_of k s)
unfolding fields_of
fields_small k s =
    by_small k s (first_fault (layout_of k) s).number (first_fault (layout_of k) s).column (fault_small (layout_of k) 1 s (tiled k))

either_small : (b : Bool) (x y : Result Record Misread) → Small x → Small y → Small (cond b x y)
either_small true x y h l = h
either_small false x y h l = l

reading_small : (k : Kind) (s : List ℕ) → Small (reading_of k s)
unfolding reading_of
reading_small k s =
    either_small (eqb (length s) 74) _ _
    (either_small (eqb (get_or s 72 0) 13) _ _
    (either_small (eqb (get_or s 73 0) 10) _ _ (fields_small k s) (omega arith))
    (omega arith))
    (omega arith)

-- so it fits C's 32 bits
pub column_small : (k : Kind) (s : List ℕ) {x : Misread} → Err x ≡ reading_of k s → x.column ≤ 74
column_small k s e = rw (← e) at (reading_small k s)
