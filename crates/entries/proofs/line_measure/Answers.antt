-- `entries::line_measure` meets its contract: it reads the list where that has the line, and a list has 0 past its end. Assumes nothing.
use mathlib.Core.Path.{◌≡◌, ap}
use Prim.Native.Nat.{◌-◌}
use lib.IntN.{pos}
use lib.ListN.{get_or}
use borrow.Author.Rules.{rules}
use Rattle.permitted.specs.Permitted.{size}
use Rattle.permitted.proofs.Signs.{own_told, own_asked}
use Rattle.layers.specs.Naming.{names_line}
use Rattle.entries.proofs.Keeping.{kept_told}
use Rattle.entries.proofs.line_measure.Goals as goal

pub returns : goal.returns
returns c =
    let n = own_asked (names_line _) c.ranges.v c.names_line.ensures c.if-not-names_line.false in
    let e = ap (λ n. n - 1) (own_told size c.ranges.v c.size.ensures) in
    let u : c.unwrap_or.result ≡ get_or c.args.kept.now (c.size.result - 1) (pos 0) = search rules in
    kept_told c.args.l c.args.kept.now c.args.v n e u c.unwrap_or.type_inv c.possible.ensures
