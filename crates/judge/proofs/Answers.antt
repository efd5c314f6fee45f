-- THE THEOREM OF DEMAND 2 (RULES 13.2): a file is accepted exactly when no rule is broken; otherwise the answer is the least broken rule in
-- the order of RULES 6.1; no second answer fits, and the answer settles what the call tells and what each lent buffer holds. The rules
-- stand in that order, so the first broken one is the least. Assumes nothing.
use mathlib.Core.Bool.{true}
use mathlib.Core.List.{List, [], ◌∷◌, ◌++◌, append_assoc}
use mathlib.Core.Path.{◌≡◌, refl, subst, sym, ◌∙◌, ap}
use Prim.Native.Nat.{ℕ, ◌≤◌, ◌<◌}
use native.Mathlib.Omega.{arith}
use lib.Dec.{lit<}
use lib.IntN.{ℤ}
use lib.ListN.{length}
use Rattle.std.specs.Prelude.{Err, Ok}
use Rattle.verdict.specs.Rules.{Verdict, Fine, Rule, Check, told_of}
use Rattle.verdict.specs.Order.{In, Answer, Sorted}
use Rattle.verdict.proofs.Orders.{answers, only, block_sorted, block_in, UpTo, Of, turn_sorted, turn_up}
use Rattle.verdict.proofs.Numbers.{unlike, between_unlike, given_unlike, Numbered, block_numbered, append_numbered, not_told}
use Rattle.walk.specs.declared.Counts.{Counts}
use Rattle.walk.specs.States.{counts_at}
use Rattle.walk.specs.Stages.{records_of, third, early, need_of}
use Rattle.walk.specs.Table.{table_of}
use Rattle.walk.proofs.InOrder.{early_sorted, early_up, early_numbered}
use Rattle.totals.specs.Totals.{fourth, stage_three}
use Rattle.totals.proofs.Summing.{three_sorted, three_of}
use Rattle.layers.specs.declared.Bases.{Bases}
use Rattle.layers.specs.Passing.{bases_in}
use Rattle.links.specs.Links.{fifth, stage_four}
use Rattle.links.proofs.InOrder.{four_sorted, four_of}
use Rattle.loops.specs.Loops.{sixth, stage_five}
use Rattle.loops.proofs.InOrder.{five_sorted, five_of}
use Rattle.sides.specs.Sides.{seventh, stage_six}
use Rattle.sides.proofs.InOrder.{six_sorted, six_of}
use Rattle.judge.specs.Rulebook.{late, rules_of, eighth, measure_rule, layer_rule, pair_rule, call_rules, call_verdict}
use Rattle.judge.specs.Rulebook.{verdict_of, sums_verdict, all_verdict}
use Rattle.judge.specs.Outcomes.{table_by, outcome_by, outcome_behind, table_behind, lent_by, outcome_of, measures_of, measures_after}
use Rattle.judge.specs.Outcomes.{sums_by, sums_of, outcome_of_all, all_sums_of, sums_after}
use Rattle.judge.proofs.Loading.{late_numbered}

-- ---- the rules stand in order

-- rules up to turn s, in order
record Turns (s : ℕ) (rs : List Rule) : Type 0 where
  up : UpTo s rs
  sorted : Sorted rs

-- one turn more
turn : (s u : ℕ) (xs ys : List Rule) → s < u → Turns s xs → Of u ys → Sorted ys → Turns u (xs ++ ys)
turn s u xs ys l t g q = record { up = turn_up s u xs ys (omega (arith, l)) t.up g; sorted = turn_sorted s u xs ys l t.up g t.sorted q }

five_parts : {A : Type 0} (e a b c d : List A) → (((e ++ a) ++ b) ++ c) ++ d ≡ e ++ (a ++ (b ++ (c ++ d)))
five_parts e a b c d = append_assoc ((e ++ a) ++ b) c d ∙ append_assoc (e ++ a) b (c ++ d) ∙ append_assoc e a (b ++ (c ++ d))

stages_turn : (file : List ℕ) (room : ℕ) → Turns seventh (rules_of file room)
unfolding rules_of late
stages_turn file room =
    let t : List ℕ = table_of file in
    let b : Bases = bases_in file in
    let early-turns : Turns third (early file room) = record { up = early_up file room; sorted = early_sorted file room } in
    subst (Turns seventh) (five_parts (early file room) (stage_three file) (stage_four file t b) (stage_five file t b) (stage_six file t b))
    (turn sixth seventh _ _ (lit< tt)
    (turn fifth sixth _ _ (lit< tt)
    (turn fourth fifth _ _ (lit< tt)
    (turn third fourth _ _ (lit< tt) early-turns (three_of file) (three_sorted file))
    (four_of file t b) (four_sorted file t b))
    (five_of file t b) (five_sorted file t b))
    (six_of file t b) (six_sorted file t b))

-- and behind all stages what a call asks
call_sorted : (file : List ℕ) (room : ℕ) (last : Counts → Check) → Sorted (call_rules file room last)
call_sorted file room last =
    let cs = last (counts_at file (records_of file)) ∷ [] in
    (turn seventh eighth _ _ (lit< tt) (stages_turn file room) (λ a i. (block_in eighth 0 cs a i).0) (block_sorted eighth 0 cs refl)).sorted

-- ---- every call: the judge, the layer sums and all sums, which differ in what they ask last

-- the verdict is the answer to the rules: Fine, and all are kept, or the least broken one
pub verdict_answers : (file : List ℕ) (room : ℕ) (last : Counts → Check) → Answer (call_rules file room last) (call_verdict file room last)
unfolding call_verdict
verdict_answers file room last = answers (call_rules file room last) (call_sorted file room last)

-- no second one fits
pub verdict_only : (file : List ℕ) (room : ℕ) (last : Counts → Check) (v : Verdict) → Answer (call_rules file room last) v → v ≡ call_verdict file room last
verdict_only file room last v a = only (call_rules file room last) v (call_verdict file room last) a (verdict_answers file room last)

-- RULES 13.2: a file is accepted exactly when it keeps the rules, the room lent included
pub accepted_keeps : (file : List ℕ) (room : ℕ) (last : Counts → Check) → call_verdict file room last ≡ Fine
    → (r : Rule) → In r (call_rules file room last) → r.holds ≡ true
accepted_keeps file room last e = subst (Answer (call_rules file room last)) e (verdict_answers file room last)

pub kept_accepted : (file : List ℕ) (room : ℕ) (last : Counts → Check)
    → ((r : Rule) → In r (call_rules file room last) → r.holds ≡ true) → call_verdict file room last ≡ Fine
kept_accepted file room last h = sym (verdict_only file room last Fine h)

-- ---- whoever finds the answer v to the rules has no choice left: what is told and what each lent buffer holds are settled

-- what the judge and all sums tell, and the table behind every call
pub told_only : (file words : List ℕ) (last : Counts → Check) (v : Verdict) → Answer (call_rules file (length words) last) v
    → (outcome_by v (counts_at file (records_of file)) (records_of file) (need_of file) ≡ outcome_behind file (length words) last)
    × (table_by v file words ≡ table_behind file last words)
unfolding outcome_behind table_behind
told_only file words last v a =
    let e = verdict_only file (length words) last v a in
    (ap (λ v. outcome_by v (counts_at file (records_of file)) (records_of file) (need_of file)) e, ap (λ v. table_by v file words) e)

-- the measures behind the judge
pub measures_only : (file : List ℕ) (room : ℕ) (ms : List ℤ) (v : Verdict) → Answer (call_rules file room (measure_rule (length ms))) v
    → lent_by v (measures_of file) ms ≡ measures_after file room ms
unfolding measures_after
measures_only file room ms v a = ap (λ v. lent_by v (measures_of file) ms) (verdict_only file room (measure_rule (length ms)) v a)

-- what the layer sums tell
pub sums_only : (file : List ℕ) (room i : ℕ) (v : Verdict) → Answer (call_rules file room (layer_rule i)) v → sums_by v file i ≡ sums_of file room i
unfolding sums_of
sums_only file room i v a = ap (λ v. sums_by v file i) (verdict_only file room (layer_rule i) v a)

-- the sums behind all sums
pub pairs_only : (file : List ℕ) (room : ℕ) (ss : List ℤ) (v : Verdict) → Answer (call_rules file room (pair_rule (length ss))) v
    → lent_by v (all_sums_of file) ss ≡ sums_after file room ss
unfolding sums_after
pairs_only file room ss v a = ap (λ v. lent_by v (all_sums_of file) ss) (verdict_only file room (pair_rule (length ss)) v a)

-- ---- the number 0

-- the rules of a file bear numbers from 1 to 18, but 7
pub rules_unlike : (file : List ℕ) (room m : ℕ) → (1 ≤ m → m ≤ 18 → (m ≡ 7 → ⊥) → ⊥) → Numbered (unlike m) (rules_of file room)
unfolding rules_of
rules_unlike file room m o =
    append_numbered (unlike m) (early file room) (late file)
    (λ a i. given_unlike 9 m a.number (λ l h n. o l (omega arith) n) (early_numbered file room a i))
    (λ a i. between_unlike 10 18 m a.number (λ l h. o (omega arith) h (λ e. omega arith)) (late_numbered file a i))

-- a number that neither they nor what a call asks last bear is told of no refusal
unborne_fine : (m : ℕ) → (1 ≤ m → m ≤ 18 → (m ≡ 7 → ⊥) → ⊥) → (file : List ℕ) (room : ℕ) (last : Counts → Check)
    → unlike m (last (counts_at file (records_of file))).number ≡ true → (told_of (call_verdict file room last)).number ≡ m → call_verdict file room last ≡ Fine
unfolding call_verdict
unborne_fine m o file room last h =
    not_told m (call_rules file room last)
    (append_numbered (unlike m) (rules_of file room) _ (rules_unlike file room m o)
    (block_numbered (unlike m) eighth 0 (last (counts_at file (records_of file)) ∷ []) (rw h)))
    (call_verdict file room last) refl

zero_fine : (file : List ℕ) (room : ℕ) (last : Counts → Check) → unlike 0 (last (counts_at file (records_of file))).number ≡ true
    → (told_of (call_verdict file room last)).number ≡ 0 → call_verdict file room last ≡ Fine
zero_fine = unborne_fine 0 (λ l h n. omega arith)

told_by : (v : Verdict) (c : Counts) (records need : ℕ) → (outcome_by v c records need).number ≡ (told_of v).number
told_by (Ok _) c records need = refl
told_by (Err r) c records need = refl

-- what is told is the verdict's number
pub outcome_number : (file : List ℕ) (room : ℕ) (last : Counts → Check) → (outcome_behind file room last).number ≡ (told_of (call_verdict file room last)).number
unfolding outcome_behind
outcome_number file room last = told_by (call_verdict file room last) _ _ _

told_sums : (v : Verdict) (file : List ℕ) (i : ℕ) → (sums_by v file i).number ≡ (told_of v).number
told_sums (Ok _) file i = refl
told_sums (Err r) file i = refl

pub sums_number : (file : List ℕ) (room i : ℕ) → (sums_of file room i).number ≡ (told_of (sums_verdict file room i)).number
unfolding sums_of
sums_number file room i = told_sums (sums_verdict file room i) file i

-- RULES 6.1: acceptance is number 0; it is told of an accepted file alone, by the judge,
pub zero_accepts : (file : List ℕ) (room places : ℕ) → (outcome_of file room places).number ≡ 0 → verdict_of file room places ≡ Fine
zero_accepts file room places e = zero_fine file room (measure_rule places) refl (sym (outcome_number file room (measure_rule places)) ∙ e)

-- by the layer sums
pub zero_sums : (file : List ℕ) (room i : ℕ) → (sums_of file room i).number ≡ 0 → sums_verdict file room i ≡ Fine
zero_sums file room i e = zero_fine file room (layer_rule i) refl (sym (sums_number file room i) ∙ e)

-- and by all sums
pub zero_all : (file : List ℕ) (room places : ℕ) → (outcome_of_all file room places).number ≡ 0 → all_verdict file room places ≡ Fine
zero_all file room places e = zero_fine file room (pair_rule places) refl (sym (outcome_number file room (pair_rule places)) ∙ e)

-- ---- the number 7

seven_fine : (file : List ℕ) (room : ℕ) (last : Counts → Check) → unlike 7 (last (counts_at file (records_of file))).number ≡ true
    → (told_of (call_verdict file room last)).number ≡ 7 → ⊥
seven_fine file room last h t =
    let f = unborne_fine 7 (λ l g n. n refl) file room last h t in
    let z : ◌≡◌ {A = ℕ} 0 7 = rw f at t in
    omega arith

-- RULES 6.2: it is never given, by the judge, the layer sums or all sums
pub never_seven : (file : List ℕ) (room n : ℕ)
    → ((outcome_of file room n).number ≡ 7 → ⊥) × ((sums_of file room n).number ≡ 7 → ⊥) × ((outcome_of_all file room n).number ≡ 7 → ⊥)
never_seven file room n = (
  λ e. seven_fine file room (measure_rule n) refl (sym (outcome_number file room (measure_rule n)) ∙ e),
  λ e. seven_fine file room (layer_rule n) refl (sym (sums_number file room n) ∙ e),
  λ e. seven_fine file room (pair_rule n) refl (sym (outcome_number file room (pair_rule n)) ∙ e),
)
