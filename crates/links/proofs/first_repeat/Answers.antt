-- `links::first_repeat` meets its contract: the scan reads the slots of the owner, as many as a record of it has. Assumes nothing.
use mathlib.Core.Path.{◌≡◌}
use Prim.Native.Nat.{ℕ, ◌-◌, ◌≤◌}
use native.Mathlib.Omega.{arith}
use lib.IntN.{ℤ}
use borrow.Author.Rules.{rules}
use Rattle.permitted.proofs.Signs.{passed_on}
use Rattle.links.specs.Links.{node_entry, slot_of}
use Rattle.links.specs.Scanning.{FirstRepeat}
use Rattle.links.proofs.first_repeat.Goals as goal
use Rattle.links.proofs.first_repeat.Goals.{After-scan_slots, After-scan_slots-in-Area}

-- m slots are n
as_many : {f : ℕ → ℤ} {from m n x : ℕ} → FirstRepeat f from m x → m ≡ n → FirstRepeat f from n x
as_many s e = rw (← e) s

-- what the scan says of an N's nine slots
node_scanned : (c : After-scan_slots) → (c.args.from ≤ c.scan_slots.result)
    × FirstRepeat (node_entry c.args.file.now c.args.f) c.args.from 9 (c.scan_slots.result - c.args.from)
node_scanned c =
    let s = c.scan_slots.ensures (node_entry c.args.file.now c.args.f) (λ i v l p. search (rules, passed_on)) (omega arith) in
    (s.0, as_many s.1 (omega (arith, rw c.in-Node.is at c.slot_count-n.ensures.0)))

-- of a loop record's twelve
area_scanned : (c : After-scan_slots-in-Area) → (c.args.from ≤ c.scan_slots-in-Area.result)
    × FirstRepeat (slot_of c.args.file.now c.args.f) c.args.from 12 (c.scan_slots-in-Area.result - c.args.from)
area_scanned c =
    let s = c.scan_slots-in-Area.ensures (slot_of c.args.file.now c.args.f) (λ i v l p. search (rules, passed_on)) (omega arith) in
    (s.0, as_many s.1 (omega (arith, rw c.in-Area.is at c.slot_count-n.ensures.0)))

pub overflow_sub-result : goal.overflow_sub-result
overflow_sub-result c = (node_scanned (goal.at.overflow_sub-result c).After-scan_slots).0

pub overflow_sub-result-in-Area : goal.overflow_sub-result-in-Area
overflow_sub-result-in-Area c = (area_scanned (goal.at.overflow_sub-result-in-Area c).After-scan_slots-in-Area).0

pub returns-in-Node : goal.returns-in-Node
returns-in-Node c = λ l. rw c.in-Node.is (node_scanned (goal.at.returns-in-Node c).After-scan_slots).1

pub returns-in-Area : goal.returns-in-Area
returns-in-Area c = λ l. rw c.in-Area.is (area_scanned (goal.at.returns-in-Area c).After-scan_slots-in-Area).1
