-- `entries::LineMeasures::keep` meets its contract: what is kept stands in front, and is the list then. Assumes nothing.
use mathlib.Core.Path.{◌≡◌, ◌∙◌, ap}
use Prim.Native.Nat.{◌≤◌, min}
use native.Mathlib.Omega.{arith}
use lib.ListN.{length}
use Rattle.entries.specs.Keeping.{walked_to}
use Rattle.entries.proofs.Keeping.{walked_front}
use Rattle.entries.proofs.LineMeasures.keep.Goals as goal

pub returns : goal.returns
returns c =
    let a = c.args in
    let k = c.keep_measures-self-inside in
    let q : k.result ≡ min a.l.lines 9999 = k.ensures.0 ∙ ap (min a.l.lines) c.self.told in
    let m : k.result ≤ length c.self.inside.measures = omega (arith, q, c.self.told) in
    walked_front a.file.now a.table.now a.l c.self.inside.measures k.ensures.1 m ∙ ap (walked_to _ _ _) q
