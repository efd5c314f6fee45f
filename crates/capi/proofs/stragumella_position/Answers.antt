-- `capi::stragumella_position` meets its contract: it is that of the call below. Assumes nothing.
use mathlib.Core.Path.{◌∙◌}
use mir.Facts.{to_z-of_z}
use Rattle.capi.proofs.stragumella_position.Goals as goal

pub returns : goal.returns
returns c = c.position_of.ensures ∙ rw (to_z-of_z c.ranges.mesh, to_z-of_z c.ranges.x, to_z-of_z c.ranges.y)
