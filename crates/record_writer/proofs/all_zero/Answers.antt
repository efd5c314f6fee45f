-- `record_writer::all_zero` meets its contract: each part's entries are 0. Assumes nothing.
use mathlib.Core.Bool.{true}
use mathlib.Core.Path.{◌≡◌}
use lib.Dec.{eqb}
use borrow.Author.Rules.{rules}
use Rattle.std.proofs.Common.{tests}
use Rattle.std.proofs.lemmas.Iterator.{YieldsList-from_slice}
use Rattle.std.proofs.lemmas.Iterator.Search.{all_from_yields_List}
use Rattle.permitted.specs.Permitted.{is_zero}
use Rattle.record_writer.proofs.all_zero.Goals.{then-all, else-all}
use Rattle.record_writer.proofs.all_zero.Goals as goal

pub returns-then-all-2 : goal.returns-then-all-2
returns-then-all-2 c =
    let n =
    all_from_yields_List is_zero _ _ c.all.result c.all.ensures.ran
    (YieldsList-from_slice c.args.numbers.now cc) (λ x b q k. search (rules, tests)) in
    let q =
    all_from_yields_List (λ b. eqb b 0) _ _ c.all-then-all-2.result c.all-then-all-2.ensures.ran
    (YieldsList-from_slice c.args.marks.now cc) (λ x b q k. search (rules, tests)) in
    elim c.if-all.branch [
      | then-all w ↦
          let m =
          all_from_yields_List (λ b. eqb b 0) _ _ w.all-then-all.result w.all-then-all.ensures.ran
          (YieldsList-from_slice c.args.name.now cc) (λ x b q k. search (rules, tests)) in
          let u : c.all.result ≡ true = w.if-all.true in
          let v : w.all-then-all.result ≡ true = cc in
          rw (← n, ← m, u, v) q
      | else-all w ↦ cc
    ]
