-- `texts::blanks` meets its contract: every byte is a space exactly if the definition finds spaces alone.
use Rattle.std.specs.Prelude.{◌≡◌, ◌↔◌, IsTrue, EachIndex, slice_index}
use borrow.Author.Rules.{rules}
use Rattle.texts.proofs.TextSteps.{blanks_iff}
use Rattle.texts.proofs.blanks.Goals as goal

pub returns : goal.returns
returns c =
    let h : IsTrue c.all.result ↔ EachIndex c.args.f.now (λ k. slice_index c.args.f.now k ≡ 32) = search rules in
    blanks_iff _ _ h
