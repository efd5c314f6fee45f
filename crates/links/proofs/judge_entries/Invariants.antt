-- `links::judge_entries` meets its contract: the loop leaves at the first entry that names nothing. Assumes nothing.
use mathlib.Core.Path.{◌≡◌}
use Rattle.verdict.specs.Rules.{Fine, first_broken, rows}
use Rattle.links.specs.Links.{fifth}
use Rattle.links.proofs.Scans.{slot_rules}
use Rattle.links.proofs.LineLaws.{entry_slot}
use Rattle.links.proofs.judge_entries.Given as goal

abbrev pub invariant-loop-i : goal.invariant-loop-i
invariant-loop-i l = first_broken (rows l.i (slot_rules fifth l.row (entry_slot l.file l.l l.row))) ≡ Fine
