-- `codes::is_land` meets its contract: no other text is land. Assumes nothing.
use mathlib.Core.Path.{◌≡◌}
use borrow.Author.Rules.{rules}
use Rattle.std.specs.Prelude.{◌↔◌, IsTrue}
use Rattle.codes.specs.Code.{land_text}
use Rattle.codes.proofs.Steps.{land_iff}
use Rattle.codes.proofs.is_land.Goals as goal

pub returns : goal.returns
returns c =
    let h : IsTrue c.eq.result ↔ (c.args.f.now ≡ land_text) = search rules in
    land_iff _ _ h
