-- `sides::lists` meets its contract: it asks each slot whether it is the entry. A record with slots is one that the file has, so the record
-- behind it can be counted. Assumes nothing.
use mathlib.Core.Bool.{true, false}
use mathlib.Core.Path.{◌≡◌, refl}
use Prim.Native.Nat.{◌<◌}
use native.Mathlib.Nat.{le_refl}
use native.Mathlib.Omega.{arith}
use borrow.Author.Rules.{rules}
use Rattle.std.proofs.lemmas.Iterator.{cases_from_any, serves_from_Range, YieldsList-from_range}
use Rattle.permitted.proofs.Signs.{passed_on}
use Rattle.sides.specs.Sides.{lists}
use Rattle.links.proofs.Scans.{any_told}
use Rattle.sides.proofs.Marked.{slot_is, area_there}
use Rattle.sides.proofs.lists.Goals as goal

pub any-requires-clause-callable : goal.any-requires-clause-callable
any-requires-clause-callable c =
    serves_from_Range (λ x q h. search rules) (λ x l m. search (rules, area_there _ _ _ c.area_slots-slots.ensures.0 m))

pub returns : goal.returns
unfolding lists
returns c =
    let n = c.area_slots-slots.result in
    let slot = slot_is c.args.file.now c.args.a c.args.back c.args.n in
    let h = cases_from_any _ _ _ (λ i. i < n → slot i ≡ true) (λ i. i < n → slot i ≡ false)
    c.any.ensures.ran (YieldsList-from_range 0 n n refl (omega arith)) (λ i q k l. search (rules, passed_on)) (λ i q k. search (rules, passed_on)) in
    rw (← c.area_slots-slots.ensures.0) (any_told n n slot (le_refl n) _ h)
