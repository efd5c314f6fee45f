-- What the scan for a repeated entry finds, and which records are passed. It serves the code and is no part of a promise. Assumes nothing.
use Rattle.std.specs.Prelude.{Bool, true, false, ◌||◌, not, List, ◌≡◌, ℕ, ◌+◌, ◌≤◌, ◌<◌, ℤ}
use Rattle.verdict.specs.Rules.{Fine, first_broken, block}
use Rattle.walk.specs.declared.State.{State}
use Rattle.walk.specs.Quiet.{quiet_due}
use Rattle.permitted.specs.Permitted.{is_zero}
use Rattle.layers.specs.declared.Layer.{Layer}
use Rattle.links.specs.declared.Owner.{Owner}
use Rattle.links.specs.declared.Owner.TheVariants.{Node, Area}
use Rattle.links.specs.Links.{repeats, node_entry, slot_of, link_checks, fifth}

-- the slots of the N at record f; or those of the loop records from f on
abbrev pub slot_by : Owner → List ℕ → ℕ → ℕ → ℤ
slot_by Node = node_entry
slot_by Area = slot_of

-- RULES 4.3, 4.7: how many of them a record has
abbrev pub slot_count : Owner → ℕ
slot_count Node = 9
slot_count Area = 12

-- slot e of the row of slots f is no entry, or repeats none
unfoldable pub clean : (ℕ → ℤ) → ℕ → Bool
clean f e = is_zero (f e) || not (repeats f e)

-- of n slots from slot `from` on, x is the first that is not clean, or n
pub record FirstRepeat (f : ℕ → ℤ) (from n x : ℕ) : Type 0 where
  pub within : x ≤ n
  pub before : (i : ℕ) → i < x → clean f (from + i) ≡ true
  pub found : x < n → clean f (from + x) ≡ false

-- the next h records, where they are quiet, have no broken check: they hold neither the first nor the last point of their line
pub record Between (file t : List ℕ) (l : Layer) (s : State) (h : ℕ) : Type 0 where
  pub fine : (j r : ℕ) → j < h → first_broken (block fifth r (link_checks (quiet_due s j) file t l s.layer.line r)) ≡ Fine
