-- `report::page::Page::put_number` meets its contract: a `u64` has at most 20 digits, and they are its decimal text. Assumes nothing.
use Rattle.std.proofs.Common.{◌++◌, ap, ◌∙◌, arith}
use Rattle.report.proofs.Decimals.{few_digits, is_decimal}
use Rattle.report.proofs.page.Page.put_number.Goals as goal

pub returns-clause-text : goal.returns-clause-text
returns-clause-text c =
    let d = c.decimal-n.ensures in
    let few = few_digits 19 _ _ d.len (omega (arith, c.ranges.v)) in
    c.put.ensures ∙ ap (λ t. c.args.self.now ++ t) (d.digits ∙ is_decimal _ _ few d.len)
