-- What a file that keeps stages 2, 4, 5 and 6 says of each line and each area of a layer: of rules that are fine every one holds, and the
-- walk meets each L, each A and each loop record that the table and the counts tell of, in its layer. Assumes nothing.
use mathlib.Core.Bool.{Bool, true, false, ◌||◌, false≢true}
use mathlib.Core.List.{List}
use mathlib.Core.Path.{◌≡◌, refl, ◌∙◌, ap, subst}
use Prim.Native.Nat.{ℕ, suc, ◌+◌, ◌*◌, ◌-◌, ◌/◌, ◌%◌, ◌≤◌, ◌<◌}
use native.Mathlib.Numerals.{add-one}
use native.Mathlib.Omega.{arith}
use lib.Dec.{eqb}
use lib.IntN.{ℤ, pos, negsuc}
use lib.ListN.{get_or}
use borrow.Author.Tests.{eqb-true}
use Rattle.records.specs.Columns.{Span, span_of, number_on, left_area, right_area, value_at}
use Rattle.verdict.specs.Rules.{Fine, first_broken}
use Rattle.verdict.proofs.Holding.{row_fine, Holding, all_hold}
use Rattle.rules.specs.declared.Due.{Due}
use Rattle.permitted.specs.Permitted.{size, within, is_zero}
use Rattle.permitted.proofs.Bounds.{within_most}
use Rattle.walk.specs.States.{due_of, state_at}
use Rattle.walk.specs.Stages.{records_of, stage_two}
use Rattle.walk.specs.Table.{table_of}
use Rattle.walk.proofs.Judging.{ended}
use Rattle.layers.specs.declared.Layer as layers
use Rattle.layers.specs.Naming.{layer_in, names, line_of, area_of}
use Rattle.layers.specs.Passing.{layer_at, bases_in, layer_of}
use Rattle.layers.proofs.Sections.{lines, areas}
use Rattle.layers.proofs.Laid.{number_of_lem, word_of_lem, RecordAt}
use Rattle.links.specs.Links.{line_checks, entry_checks, link_checks, fifth, stage_four}
use Rattle.links.proofs.Holds.{left_named, right_named, entry_named}
use Rattle.entries.specs.Entries.{slot_of, loops_at, records_to, slots_of}
use Rattle.entries.proofs.Owning.{inside, complete}
use Rattle.loops.specs.Loops.{area_record, loop_checks, area_checks, sixth, stage_five}
use Rattle.loops.proofs.Holds.{entry_once, entry_own}
use Rattle.sides.specs.Sides.{lists, side_listed, list_checks, line_list_checks, seventh, stage_six}
use Rattle.sides.proofs.Holds.{left_listed, right_listed}
use Rattle.ground.specs.Layers.{left_area_of, right_area_of}
use Rattle.ground.specs.Standing.{LineKept, SlotKept}

-- ---- the stages

-- a file that keeps stages 2, 4, 5 and 6
pub record Passed (file : List ℕ) : Type 0 where
  pub two : first_broken (stage_two file) ≡ Fine
  pub four : first_broken (stage_four file (table_of file) (bases_in file)) ≡ Fine
  pub five : first_broken (stage_five file (table_of file) (bases_in file)) ≡ Fine
  pub six : first_broken (stage_six file (table_of file) (bases_in file)) ≡ Fine

-- of record k + 1, due as d, all checks of each stage hold
module _ (file : List ℕ) (p : Passed file) (k : ℕ) (l : k < records_of file) {d : Due} (e : due_of (state_at file k) ≡ d) where
  abbrev here : layers.Layer
  here = layer_at file (table_of file) (bases_in file) k

  four_holds : Holding (link_checks d file (table_of file) here (state_at file k).layer.line (k + 1))
  unfolding stage_four
  four_holds = rw (← e) (all_hold fifth (k + 1) _ (row_fine _ (records_of file) p.four k l))

  five_holds : Holding (area_checks d file (table_of file) here (state_at file k).layer.area (k + 1))
  unfolding stage_five
  five_holds = rw (← e) (all_hold sixth (k + 1) _ (row_fine _ (records_of file) p.five k l))

  six_holds : Holding (line_list_checks d file (table_of file) here (k + 1))
  unfolding stage_six
  six_holds = rw (← e) (all_hold seventh (k + 1) _ (row_fine _ (records_of file) p.six k l))

-- ---- a line

-- a side's number v where 11 is kept: 0 or one of 1 to n
names_most : (n : ℕ) (v : ℤ) → (is_zero v || names n v) ≡ true → size v ≤ n
unfolding names
names_most n v h = by (is_zero v) refl h
  where
    by : (t : Bool) → is_zero v ≡ t → (t || within 1 n v) ≡ true → size v ≤ n
    by true e h = omega (arith, eqb-true (size v) 0 e)
    by false e h = within_most 1 n v h

-- it has no sign
names_natural : (n : ℕ) (v : ℤ) → (is_zero v || names n v) ≡ true → v ≡ pos (size v)
unfolding names within
names_natural n (pos i) h = refl
names_natural n (negsuc i) h = absurd (by (eqb (suc i) 0) refl h)
  where
    by : (t : Bool) → eqb (suc i) 0 ≡ t → (t || false) ≡ true → ⊥
    by true e h = omega (arith, eqb-true (suc i) 0 e)
    by false e h = false≢true h

-- 18 of the side whose area, not 0, stands at column c
side_lists : (file t : List ℕ) (l : layers.Layer) (r : ℕ) (c : Span) (back : Bool) (n : ℕ)
    → (is_zero (number_on file r c) || names l.areas (number_on file r c)) ≡ true → side_listed file t l r c back n ≡ true → 0 < size (number_on file r c)
    → lists file (area_of t l (pos (size (number_on file r c)))) back n ≡ true
unfolding side_listed
side_lists file t l r c back n e h a = by (number_on file r c) (is_zero (number_on file r c)) refl e h a
  where
    by : (v : ℤ) (b : Bool) → is_zero v ≡ b → (is_zero v || names l.areas v) ≡ true → (b || lists file (area_of t l v) back n) ≡ true → 0 < size v
        → lists file (area_of t l (pos (size v))) back n ≡ true
    by v true z e h a = absurd (omega (arith, eqb-true (size v) 0 z))
    by v false z e h a = subst (λ (w : ℤ). lists file (area_of t l w) back n ≡ true) (names_natural l.areas v e) h

kept_by : (file t : List ℕ) (l : layers.Layer) (r n : ℕ) → line_of t l (pos n) ≡ r → Holding (line_checks file t l r)
    → Holding (list_checks file t l r n) → LineKept file t l n
unfolding left_area_of right_area_of
kept_by file t l r n e four six =
    let p = left_named file t l r four in
    let q = right_named file t l r four in
    record {
      left = rw e (names_most l.areas (value_at file r left_area) p);
      right = rw e (names_most l.areas (value_at file r right_area) q);
      left_lists = rw e (side_lists file t l r (span_of left_area) true n p (left_listed file t l r n six));
      right_lists = rw e (side_lists file t l r (span_of right_area) false n q (right_listed file t l r n six));
    }

pub line_kept : (file : List ℕ) → Passed file → (i m k : ℕ) → RecordAt lines file i m k → LineKept file (table_of file) (layer_of file i) (suc m)
line_kept file p i m k x =
    let t = table_of file in
    let four : Holding (line_checks file t (layer_of file i) (k + 1)) = rw x.layer at (four_holds file p k x.within x.due) in
    let six : Holding (list_checks file t (layer_of file i) (k + 1) (m + 1)) = rw x.layer at (six_holds file p k x.within x.due) in
    kept_by file t (layer_of file i) (suc k) (suc m) x.word (rw (add-one k) at four) (rw (add-one k, add-one m) at six)

-- ---- an area's slots

-- from the checks of slot i of the loop record r
slot_by_lem : (file t : List ℕ) (l : layers.Layer) (a x count left r i e : ℕ) → r ≡ x + 1 + e / 12 → i ≡ e % 12 → i < 12 → area_record t l a ≡ x
    → Holding (entry_checks file l r) → Holding (loop_checks file t l a count left r) → SlotKept file t l a x e
unfolding slot_of
slot_by_lem file t l a x count left r i e p q m z four five =
    let y : 12 * (r - (x + 1)) + i ≡ e = omega arith in
    record {
      known = rw (← p, ← q) (entry_named file l r four i m);
      once = rw (z, y) at (entry_once file t l a count left r five i m);
      own = rw (← p, ← q) (entry_own file t l a count left r five i m);
    }

pub slot_kept : (file : List ℕ) → Passed file → (i a k : ℕ) → RecordAt areas file i a k → (e : ℕ) → e < slots_of file (suc k)
    → SlotKept file (table_of file) (layer_of file i) (suc a) (suc k) e
unfolding slots_of layer_at area_record
slot_kept file p i a k x e m =
    let t = table_of file in
    let b = bases_in file in
    let q = e / 12 in
    let j = suc k + q in
    let o : q < records_to file (suc k) (loops_at file (suc k)) = omega arith in
    let v = inside file k x.due q o in
    let w = complete file k (records_of file) x.within (ended file p.two) x.due q o in
    let n : (state_at file j).layer.area ≡ suc a = omega (arith, v.area, (number_of_lem areas file k x.within _ 0 _ x.due).0) in
    let f : layer_at file t b j ≡ layer_of file i = ap (λ (c : ℕ). layer_in t b (c - 1)) v.layers ∙ x.layer in
    let four = rw f at (four_holds file p j w v.due) in
    let five = rw (f, n) at (five_holds file p j w v.due) in
    let y : suc a - 1 ≡ a = omega arith in
    let z : get_or t ((layer_of file i).area + (suc a - 1)) 0 ≡ suc k = rw y (rw x.layer at (word_of_lem areas file k x.within _ 0 _ x.due)) in
    slot_by_lem file t (layer_of file i) (suc a) (suc k) v.count v.left (j + 1) (e % 12) e (omega arith) refl (omega arith) z four five
