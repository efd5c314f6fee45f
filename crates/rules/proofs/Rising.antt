-- A record's checks stand in order (RULES 6.1): by column, and by number at one column. Whatever a record holds, the columns and numbers are
-- the same, and antt computes that they rise. Assumes nothing.
use mathlib.Core.Bool.{true}
use mathlib.Core.List.{List}
use mathlib.Core.Path.{◌≡◌, refl}
use Prim.Native.Nat.{ℕ}
use Rattle.records.specs.Layout.{layout_of}
use Rattle.verdict.specs.Order.{rising}
use Rattle.verdict.proofs.Numbers.{up_to8, numbered}
use Rattle.rules.specs.declared.Due.{Due}
use Rattle.rules.specs.declared.Due.TheVariants.{Mesh, Layer, Node, Line, Coordinates, Area, Loop}
use Rattle.asks.specs.Asks.{from, mesh_asks, layer_asks, node_asks, line_asks, coordinate_asks, area_asks, loop_asks}
use Rattle.rules.specs.Checks.{asks_of, asked_of, form_checks, value_checks, along, checks_of}

pub checks_rising : (d : Due) (t : List ℕ) → rising (checks_of d t) ≡ true
unfolding layout_of from mesh_asks layer_asks node_asks line_asks coordinate_asks area_asks loop_asks asks_of asked_of form_checks value_checks along checks_of
checks_rising (Mesh last) t = refl
checks_rising (Layer last) t = refl
checks_rising (Node layer last) t = refl
checks_rising (Line layer last letters) t = refl
checks_rising (Coordinates left) t = refl
checks_rising (Area layer last) t = refl
checks_rising (Loop last count left) t = refl

-- and none has a number above 8, or 7
pub checks_numbered : (d : Due) (t : List ℕ) → numbered up_to8 (checks_of d t) ≡ true
unfolding layout_of from mesh_asks layer_asks node_asks line_asks coordinate_asks area_asks loop_asks asks_of asked_of form_checks value_checks along checks_of
checks_numbered (Mesh last) t = refl
checks_numbered (Layer last) t = refl
checks_numbered (Node layer last) t = refl
checks_numbered (Line layer last letters) t = refl
checks_numbered (Coordinates left) t = refl
checks_numbered (Area layer last) t = refl
checks_numbered (Loop last count left) t = refl
