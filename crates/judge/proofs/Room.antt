-- ROOM ENOUGH. A table as long as the need never gets 9, as many places for measures never get 19, and half as many for sums never 48, whatever
-- the file; and the judge's answer is the same with any more room. In a file that keeps stages 1 and 2 the need is the words of its table, four a
-- layer and its areas among them; any other is refused before. Assumes nothing.
use mathlib.Core.Bool.{true}
use mathlib.Core.List.{List, [], ◌∷◌, ◌++◌}
use mathlib.Core.Path.{◌≡◌, refl, sym, ◌∙◌, ap}
use Prim.Native.Nat.{ℕ, ◌*◌, ◌/◌, ◌≤◌, ◌<◌}
use native.Mathlib.Omega.{arith}
use lib.Dec.{lit<}
use borrow.Author.Tests.{le-leb}
use Rattle.std.specs.Prelude.{Err, Ok}
use Rattle.verdict.specs.Rules.{Verdict, Fine, Rule, Check, block, first_broken, told_of}
use Rattle.verdict.proofs.Numbers.{unlike, between_unlike, given_unlike, numbered, Numbered, block_numbered, append_numbered, not_told}
use Rattle.verdict.proofs.Parts.{◌or_else◌, in_turn, both_fine, check_none, check_kept}
use Rattle.walk.specs.declared.Counts.{Counts}
use Rattle.walk.specs.States.{counts_at}
use Rattle.walk.specs.Stages.{records_of, stage_one, stage_two, walked_of, verdict_in, need_of, third, words_of, room_rule, early}
use Rattle.walk.proofs.InOrder.{stages_numbered}
use Rattle.walk.proofs.Judging.{walked_verdict}
use Rattle.walk.proofs.Room.{need_words, need_counted}
use Rattle.judge.specs.Rulebook.{late, rules_of, eighth, measure_rule, layer_rule, pair_rule, call_verdict, verdict_of}
use Rattle.judge.specs.Outcomes.{outcome_by, outcome_behind, outcome_of, sums_of, outcome_of_all}
use Rattle.judge.proofs.Answers.{rules_unlike, outcome_number, sums_number}
use Rattle.judge.proofs.Loading.{late_numbered}

-- ---- what is enough

-- a table of `room` words and `places` places for measures are enough for a file: the need, and a place for each area
pub record Enough (file : List ℕ) (room places : ℕ) : Type 0 where
  pub words : need_of file ≤ room
  pub areas : verdict_in (walked_of file) ≡ Fine → (counts_at file (records_of file)).areas ≤ places

-- as many of each as the need says are
pub need_enough : (file : List ℕ) (room places : ℕ) → need_of file ≤ room → need_of file ≤ places → Enough file room places
need_enough file room places w p = record { words = w; areas = λ kept. omega (arith, need_counted file kept) }

-- ---- the rules with room enough

-- a part that is fine wherever those before it are can be left out
skipped : (a b c : Verdict) → (a ≡ Fine → b ≡ Fine) → (a or_else b) or_else c ≡ a or_else c
skipped (Ok _) b c h = rw (h refl)
skipped (Err r) b c h = refl

last_skipped : (a b : Verdict) → (a ≡ Fine → b ≡ Fine) → a or_else b ≡ a
last_skipped (Ok _) b h = h refl
last_skipped (Err r) b h = refl

-- the rules of a file but for the room
abbrev own_rules : List ℕ → List Rule
own_rules file = (stage_one file ++ stage_two file) ++ late file

module _ (file : List ℕ) (room : ℕ) (w : need_of file ≤ room) where
  room_kept : first_broken (stage_one file ++ stage_two file) ≡ Fine → first_broken (room_rule file room) ≡ Fine
  unfolding room_rule words_of
  room_kept h =
      let e = need_words file (walked_verdict file ∙ h) in
      check_kept third 0 0 9 _ [] (le-leb _ _ (rw e at w)) ∙ sym (check_none third 0)

  rules_roomy : first_broken (rules_of file room) ≡ first_broken (own_rules file)
  unfolding rules_of early
  rules_roomy =
      in_turn (early file room) (late file)
      ∙ ap (λ v. v or_else first_broken (late file)) (in_turn (stage_one file ++ stage_two file) (room_rule file room))
      ∙ skipped (first_broken (stage_one file ++ stage_two file)) (first_broken (room_rule file room)) (first_broken (late file)) room_kept
      ∙ sym (in_turn (stage_one file ++ stage_two file) (late file))

  -- with a rule more behind them
  rules_then : (rs : List Rule) → first_broken (rules_of file room ++ rs) ≡ first_broken (own_rules file ++ rs)
  rules_then rs = in_turn (rules_of file room) rs ∙ ap (λ v. v or_else first_broken rs) rules_roomy ∙ sym (in_turn (own_rules file) rs)

-- what a call asks is so in every file that keeps stages 1 and 2
module _ (file : List ℕ) (room : ℕ) (last : Counts → Check) (p : verdict_in (walked_of file) ≡ Fine → (last (counts_at file (records_of file))).holds ≡ true) where
  asked_kept : first_broken (rules_of file room) ≡ Fine → first_broken (block eighth 0 (last (counts_at file (records_of file)) ∷ [])) ≡ Fine
  unfolding rules_of early
  asked_kept h =
      let s = (both_fine (stage_one file ++ stage_two file) (room_rule file room) (both_fine (early file room) (late file) h).0).0 in
      check_kept eighth 0 _ _ _ [] (p (walked_verdict file ∙ s)) ∙ sym (check_none eighth 0)

  verdict_placed : call_verdict file room last ≡ first_broken (rules_of file room)
  unfolding call_verdict
  verdict_placed = in_turn (rules_of file room) _ ∙ last_skipped (first_broken (rules_of file room)) _ asked_kept

-- with room enough the answer does not hang on how much it is
pub same_verdict : (file : List ℕ) {room places r p : ℕ} → Enough file room places → Enough file r p → verdict_of file room places ≡ verdict_of file r p
same_verdict file {room} {places} {r} {p} a b =
    verdict_placed file room (measure_rule places) (λ k. le-leb _ _ (a.areas k)) ∙ rules_roomy file room a.words
    ∙ sym (rules_roomy file r b.words) ∙ sym (verdict_placed file r (measure_rule p) (λ k. le-leb _ _ (b.areas k)))

pub same_outcome : (file : List ℕ) {room places r p : ℕ} → Enough file room places → Enough file r p → outcome_of file room places ≡ outcome_of file r p
unfolding outcome_behind
same_outcome file a b = ap (λ v. outcome_by v (counts_at file (records_of file)) (records_of file) (need_of file)) (same_verdict file a b)

-- ---- the numbers 9, 19 and 48

-- a verdict that is fine tells 0
zero_told : {v : Verdict} {m : ℕ} → (told_of v).number ≡ m → v ≡ Fine → m ≡ 0
zero_told e h = rw h at (sym e)

-- no rule of a file but the room's bears 9
own_unlike : (file : List ℕ) (cs : List Check) → numbered (unlike 9) cs ≡ true → Numbered (unlike 9) (own_rules file ++ block eighth 0 cs)
own_unlike file cs h =
    append_numbered (unlike 9) (own_rules file) (block eighth 0 cs)
    (append_numbered (unlike 9) (stage_one file ++ stage_two file) (late file)
    (λ a i. given_unlike 8 9 a.number (λ l g h. omega arith) (stages_numbered file a i))
    (λ a i. between_unlike 10 18 9 a.number (λ l g. omega arith) (late_numbered file a i)))
    (block_numbered (unlike 9) eighth 0 cs h)

never_nine : (file : List ℕ) (room : ℕ) (last : Counts → Check) → unlike 9 (last (counts_at file (records_of file))).number ≡ true
    → need_of file ≤ room → (told_of (call_verdict file room last)).number ≡ 9 → ⊥
unfolding call_verdict
never_nine file room last h w t =
    let cs = last (counts_at file (records_of file)) ∷ [] in
    let e = rules_then file room w (block eighth 0 cs) in
    let f = not_told 9 (own_rules file ++ block eighth 0 cs) (own_unlike file cs (rw h)) (call_verdict file room last) e t in
    let z = zero_told t f in
    omega arith

-- a number above 18 is not told where what it asks is so
never_last : (file : List ℕ) (room : ℕ) (last : Counts → Check) → (verdict_in (walked_of file) ≡ Fine → (last (counts_at file (records_of file))).holds ≡ true)
    → (m : ℕ) → 18 < m → (outcome_behind file room last).number ≡ m → ⊥
never_last file room last p m g e =
    let v = call_verdict file room last in
    let t = sym (outcome_number file room last) ∙ e in
    let z = zero_told t (not_told m (rules_of file room) (rules_unlike file room m (λ l h n. omega arith)) v (verdict_placed file room last p) t) in
    omega arith

-- THE JUDGE DOES NOT ANSWER 9 to a table as long as the need
pub room_enough : (file : List ℕ) (room places : ℕ) → need_of file ≤ room → (outcome_of file room places).number ≡ 9 → ⊥
room_enough file room places w e = never_nine file room (measure_rule places) refl w (sym (outcome_number file room (measure_rule places)) ∙ e)

-- nor do the layer sums
pub sums_enough : (file : List ℕ) (room i : ℕ) → need_of file ≤ room → (sums_of file room i).number ≡ 9 → ⊥
sums_enough file room i w e = never_nine file room (layer_rule i) refl w (sym (sums_number file room i) ∙ e)

-- nor do all sums
pub all_enough : (file : List ℕ) (room places : ℕ) → need_of file ≤ room → (outcome_of_all file room places).number ≡ 9 → ⊥
all_enough file room places w e = never_nine file room (pair_rule places) refl w (sym (outcome_number file room (pair_rule places)) ∙ e)

-- AND NOT 19 to as many places for measures
pub places_enough : (file : List ℕ) (room places : ℕ) → need_of file ≤ places → (outcome_of file room places).number ≡ 19 → ⊥
places_enough file room places p =
    never_last file room (measure_rule places)
    (λ kept. le-leb (counts_at file (records_of file)).areas places (omega (arith, need_counted file kept))) 19 (lit< tt)

-- AND NOT 48 to half as many places for sums
pub pairs_enough : (file : List ℕ) (room places : ℕ) → need_of file / 2 ≤ places → (outcome_of_all file room places).number ≡ 48 → ⊥
pairs_enough file room places p =
    never_last file room (pair_rule places)
    (λ kept. le-leb (2 * (counts_at file (records_of file)).layers) places (omega (arith, need_counted file kept))) 48 (lit< tt)
