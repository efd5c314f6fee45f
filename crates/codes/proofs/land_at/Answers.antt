-- `codes::land_at` meets its contract: the field's bytes are looked at where they lie within `s`. Assumes nothing.
use mathlib.Core.Bool.{false}
use mathlib.Core.Path.{◌≡◌}
use borrow.Author.Rules.{rules}
use Rattle.std.specs.Prelude.{MatchOption}
use Rattle.fields.specs.Text.{text_at}
use Rattle.fields.proofs.Answers.{text_answer}
use Rattle.codes.specs.Code.{is_land, land_at}
use Rattle.codes.proofs.land_at.Goals as goal

pub returns : goal.returns
unfolding land_at text_at
returns c =
    let h : MatchOption c.bytes_at.result (c.is_some_and.result ≡ false) (λ f. c.is_some_and.result ≡ is_land f.now) = search rules in
    text_answer is_land _ _ _ _ _ c.bytes_at.ensures h
