-- `writers::write_blank` meets its contract: spaces are what `fill` writes where nothing is left to be written. Assumes nothing.
use mathlib.Core.Path.{sym, ◌∙◌}
use Prim.Native.Nat.{◌+◌, ◌-◌, ◌≤◌}
use native.Mathlib.Omega.{arith}
use lib.ListN.{length, length-replicate}
use Rattle.writers.proofs.Answers.{wrote_all}
use Rattle.writers.proofs.Filling.{blanks_are}
use Rattle.fields.proofs.Places.{inside_bounds}
use Rattle.writers.proofs.write_blank.Goals as goal
use Rattle.writers.proofs.write_blank.Goals.{Else-not-inside}

-- past the first test the field lies inside
bounds : (c : Else-not-inside) → (1 ≤ c.args.column) × (c.args.column - 1 + c.args.width ≤ length c.args.buf.now)
bounds c = inside_bounds _ _ _ (sym c.inside.ensures ∙ c.if-not-inside.false)

pub overflow_sub-column : goal.overflow_sub-column
overflow_sub-column c = let p = bounds (goal.at.overflow_sub-column c).Else-not-inside in omega arith

pub fill-requires : goal.fill-requires
fill-requires c = let p = bounds (goal.at.fill-requires c).Else-not-inside in omega arith

pub returns : goal.returns
returns c =
    wrote_all _ _ _ _ (sym c.inside.ensures ∙ c.if-not-inside.false) _ _
    (length-replicate c.args.width 32) (c.fill.ensures ∙ rw blanks_are)
