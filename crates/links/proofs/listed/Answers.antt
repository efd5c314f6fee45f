-- `links::listed` meets its contract: it asks the nine slots in their order. Assumes nothing.
use mathlib.Core.Bool.{true, false}
use mathlib.Core.Path.{◌≡◌, refl}
use Prim.Native.Nat.{◌<◌}
use native.Mathlib.Nat.{le_refl}
use borrow.Author.Rules.{rules}
use Rattle.std.proofs.lemmas.Iterator.{cases_from_any, YieldsList-from_range}
use Rattle.permitted.proofs.Signs.{passed_on}
use Rattle.links.specs.Links.{listed, entry_is, node_entry}
use Rattle.links.proofs.Scans.{any_told}
use Rattle.links.proofs.listed.Goals as goal

pub returns : goal.returns
unfolding listed
returns c =
    let a = c.args in
    let h = cases_from_any _ _ _ (λ i. i < 9 → entry_is a.back a.n (node_entry a.file.now a.r i) ≡ true)
    (λ i. i < 9 → entry_is a.back a.n (node_entry a.file.now a.r i) ≡ false)
    c.any.ensures.ran (YieldsList-from_range 0 9 9 refl refl) (λ i q k l. search (rules, passed_on)) (λ i q k. search (rules, passed_on)) in
    any_told 9 9 _ (le_refl 9) _ h
