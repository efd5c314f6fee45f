-- `texts::read_name` meets its contract: the field's bytes are judged where they lie within `s`.
use Rattle.std.specs.Prelude.{◌≡◌, false, MatchOption}
use borrow.Author.Rules.{rules}
use Rattle.fields.specs.Text.{is_name}
use Rattle.fields.proofs.Answers.{text_answer}
use Rattle.texts.proofs.read_name.Goals as goal

pub returns : goal.returns
returns c =
    let h : MatchOption c.bytes_at.result (c.is_some_and.result ≡ false) (λ f. c.is_some_and.result ≡ is_name f.now) = search rules in
    text_answer is_name _ _ _ _ _ c.bytes_at.ensures h
