-- `rules::judge_value` meets its contract: each kind's function answers for its list. Assumes nothing.
use Rattle.rules.specs.Checks.{asks_of}
use Rattle.rules.proofs.judge_value.Goals as goal

pub returns-in-Mesh : goal.returns-in-Mesh
unfolding asks_of
returns-in-Mesh c = rw c.in-Mesh.is c.mesh_fault.ensures

pub returns-in-Layer : goal.returns-in-Layer
unfolding asks_of
returns-in-Layer c = rw c.in-Layer.is c.head_fault.ensures

pub returns-in-Node : goal.returns-in-Node
unfolding asks_of
returns-in-Node c = rw c.in-Node.is c.node_fault.ensures

pub returns-in-Line : goal.returns-in-Line
unfolding asks_of
returns-in-Line c = rw c.in-Line.is c.line_fault.ensures

pub returns-in-Coordinates : goal.returns-in-Coordinates
unfolding asks_of
returns-in-Coordinates c = rw c.in-Coordinates.is c.coordinate_fault.ensures

pub returns-in-Area : goal.returns-in-Area
unfolding asks_of
returns-in-Area c = rw c.in-Area.is c.area_fault.ensures

pub returns-in-Loop : goal.returns-in-Loop
unfolding asks_of
returns-in-Loop c = rw c.in-Loop.is c.loop_fault.ensures
