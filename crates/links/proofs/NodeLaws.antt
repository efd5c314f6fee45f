-- The checks of an N's slots, by the ways out of the code that judges them. Assumes nothing.
use mathlib.Core.Bool.{Bool, true, false, not, ◌||◌}
use mathlib.Core.List.{List, [], ◌∷◌}
use mathlib.Core.Path.{◌≡◌, refl, ◌∙◌}
use Prim.Native.Nat.{ℕ, ◌<◌}
use Rattle.permitted.specs.Permitted.{is_zero}
use Rattle.layers.specs.declared.Layer.{Layer}
use Rattle.layers.specs.Naming.{names_line}
use Rattle.records.specs.Columns.{slot_start, slot_column}
use Rattle.records.specs.Columns as column
use Rattle.verdict.specs.Rules.{Verdict, Fine, Broken, check, first_broken, block}
use Rattle.verdict.proofs.Parts.{fine_broken, rows_none, rows_pass, check_kept, check_broken}
use Rattle.links.specs.Links.{repeats, node_entry, meets, repeats_node, node_slot, fifth}
use Rattle.links.specs.Scanning.{clean}
use Rattle.links.proofs.Scans.{slots_stop, slots_done, goes_past}
use Rattle.links.proofs.LineLaws.{slot_told}

module _ (file t : List ℕ) (l : Layer) (r i row : ℕ) where
  -- what they come to
  abbrev judged : Verdict
  judged = first_broken (block fifth row (node_slot file t l r i))

  -- the slot is 0
  pub slot_none : is_zero (node_entry file r i) ≡ true → Fine ≡ judged
  unfolding node_slot first_broken block
  slot_none z = rw z

  module _ (m : i < 9) (z : is_zero (node_entry file r i) ≡ false) where
    pub slot_eleven : {v : Verdict} → v ≡ Broken 11 row (slot_start 26 5 9 i) → names_line l.lines (node_entry file r i) ≡ false → v ≡ judged
    unfolding node_slot first_broken block
    slot_eleven h a = slot_told column.node_entries m h ∙ rw (z, a)

    module _ (a : names_line l.lines (node_entry file r i) ≡ true) where
      pub slot_twelve : {v : Verdict} → v ≡ Broken 12 row (slot_start 26 5 9 i) → meets file t l r (node_entry file r i) ≡ false → v ≡ judged
      unfolding node_slot first_broken block
      slot_twelve h b = slot_told column.node_entries m h ∙ rw (z, a, b)

      module _ (b : meets file t l r (node_entry file r i) ≡ true) where
        pub slot_thirteen : {v : Verdict} → v ≡ Broken 13 row (slot_start 26 5 9 i) → clean (node_entry file r) i ≡ false → v ≡ judged
        unfolding node_slot first_broken block clean repeats_node
        slot_thirteen h d = slot_told column.node_entries m h ∙ rw (d, z, a, b)

        pub slot_fine : clean (node_entry file r) i ≡ true → Fine ≡ judged
        unfolding node_slot first_broken block clean repeats_node
        slot_fine d = rw (d, z, a, b)

  -- its third check is that it is clean
  pub slot_clean : judged ≡ Fine → clean (node_entry file r) i ≡ true
  unfolding node_slot clean repeats_node
  slot_clean =
      third (is_zero (node_entry file r i) || names_line l.lines (node_entry file r i)) (is_zero (node_entry file r i) || meets file t l r (node_entry file r i))
      (is_zero (node_entry file r i) || not (repeats (node_entry file r) i))
    where
      third : (a b d : Bool)
          → first_broken (block fifth row
          (check (slot_column column.node_entries i) 11 a ∷ check (slot_column column.node_entries i) 12 b ∷ check (slot_column column.node_entries i) 13 d ∷ []))
          ≡ Fine
          → d ≡ true
      third a b true h = refl
      third false b false h = fine_broken h (check_broken fifth row _ 11 false _ refl)
      third true false false h = fine_broken h (check_kept fifth row _ 11 true _ refl ∙ check_broken fifth row _ 12 false _ refl)
      third true true false h =
          fine_broken h (check_kept fifth row _ 11 true _ refl ∙ (check_kept fifth row _ 12 true _ refl ∙ check_broken fifth row _ 13 false _ refl))

pub ruleset slot_laws = (slot_none, slot_eleven, slot_twelve, slot_thirteen, slot_fine)

pub ruleset node_laws = (rows_none, rows_pass, slots_stop, slots_done, goes_past, slot_clean)
