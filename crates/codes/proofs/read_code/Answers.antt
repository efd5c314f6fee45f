-- `codes::read_code` meets its contract: a number has no mark, and what is no number is land or refused. Assumes nothing.
use mir.Facts.{to_z-of_z}
use mir.Syntax.{w32}
use borrow.Author.Rules.{rules}
use Rattle.codes.proofs.Steps.{number_coded, land_coded, none_coded}
use Rattle.codes.proofs.read_code.Goals as goal

pub returns-in-Some : goal.returns-in-Some
returns-in-Some c = rw (to_z-of_z {w = w32} {z = c.in-Some.value} (search rules)) (number_coded _ _ _ c.read_number.ensures _ c.in-Some.is)

pub returns-then-land_at : goal.returns-then-land_at
returns-then-land_at c = land_coded _ _ _ c.read_number.ensures c.in_default.is c.land_at.ensures c.if-land_at.true

pub returns : goal.returns
returns c = none_coded _ _ _ c.read_number.ensures c.in_default.is c.land_at.ensures c.if-land_at.false
