-- `walk::put_record` meets its contract: one way for each kind that can be due. Assumes nothing.
use native.Mathlib.Omega.{arith}
use Rattle.walk.proofs.Filling.{none_stored}
use Rattle.walk.proofs.put_record.Goals as goal

pub overflow_mul-c : goal.overflow_mul-c
overflow_mul-c c =
    let r = rw c.in-Layer.is at c.requires.room in
    omega (arith, r, c.well_formed.0.0)

pub put_row-requires : goal.put_row-requires
put_row-requires c =
    let r = rw c.in-Layer.is at c.requires.room in record {
      row_length_in_bounds = omega (arith, r);
      nodes_bound = (c.size_at.ensures.1, c.size_at-in-Layer.ensures.1, c.size_at-in-Layer-2.ensures.1);
    }

pub overflow_add-table : goal.overflow_add-table
overflow_add-table c =
    let r = rw c.in-Line.is at c.requires.room in
    omega (arith, r, c.well_formed.0.0)

pub offset_bounds-table-b : goal.offset_bounds-table-b
offset_bounds-table-b c =
    let r = rw c.in-Line.is at c.requires.room in
    omega (arith, r, c.well_formed.0.1)

pub bounds-table-b : goal.bounds-table-b
bounds-table-b c =
    let r = rw c.in-Line.is at c.requires.room in
    omega (arith, r)

pub overflow_add-table-in-Area : goal.overflow_add-table-in-Area
overflow_add-table-in-Area c =
    let r = rw c.in-Area.is at c.requires.room in
    omega (arith, r, c.well_formed.0.0)

pub offset_bounds-table-b-in-Area : goal.offset_bounds-table-b-in-Area
offset_bounds-table-b-in-Area c =
    let r = rw c.in-Area.is at c.requires.room in
    omega (arith, r, c.well_formed.0.1)

pub bounds-table-b-in-Area : goal.bounds-table-b-in-Area
bounds-table-b-in-Area c =
    let r = rw c.in-Area.is at c.requires.room in
    omega (arith, r)

pub returns-in-Layer : goal.returns-in-Layer
returns-in-Layer c =
    rw (
      c.in-Layer.is,
      ← c.size_at.ensures.0,
      ← c.size_at-in-Layer.ensures.0,
      ← c.size_at-in-Layer-2.ensures.0,
      ← c.head_letters.ensures,
    )
    c.put_row.ensures

-- no other record gives words
pub returns-in_default : goal.returns-in_default
returns-in_default c =
    none_stored c.args.d _ _ c.args.c c.args.b _ c.in_default.not-Layer c.in_default.not-Line c.in_default.not-Area
