-- Stage 3 as the code judges it: sums record by record, and its rules in the order of RULES 6.1. Assumes nothing.
use mathlib.Core.Bool.{Bool, true, false, cond}
use mathlib.Core.List.{List, [], ◌∷◌}
use mathlib.Core.Path.{◌≡◌, refl, sym, ◌∙◌}
use Prim.Native.Nat.{ℕ, zero, suc, ◌+◌, ◌-◌, ◌≤◌, ◌<◌}
use native.Mathlib.Nat.{add-zero}
use native.Mathlib.Numerals.{add-one}
use native.Mathlib.Omega.{arith}
use lib.Dec.{leb, eqb}
use borrow.Author.Tests.{le-leb, lt-leb, leb-true, leb-false, eq-eqb, ne_eqb}
use Rattle.records.specs.View.{record_of}
use Rattle.records.specs.Columns.{layer_records}
use Rattle.std.specs.Prelude.{Err}
use Rattle.verdict.specs.declared.Refusal.{Refusal}
use Rattle.verdict.specs.Rules.{Verdict, Fine, Broken, Rule, check, first_broken, block, rows}
use Rattle.verdict.specs.Order.{Sorted, rising}
use Rattle.verdict.proofs.Parts.{rows_stop, rows_done, check_none, check_kept, check_broken}
use Rattle.verdict.proofs.Numbers.{ten_to18, numbered, Numbered, block_numbered, rows_numbered}
use Rattle.verdict.proofs.Orders.{Of, rows_sorted, rows_in}
use Rattle.rules.specs.declared.Due.{Due}
use Rattle.rules.specs.declared.Due.TheVariants.{Mesh, Layer, Node, Line, Coordinates, Area, Loop}
use Rattle.walk.specs.declared.State.{State}
use Rattle.walk.specs.States.{due_of, state_at}
use Rattle.walk.specs.Stages.{records_of}
use Rattle.walk.specs.Quiet.{is_quiet, Quiet}
use Rattle.walk.proofs.Walking.{size_small}
use Rattle.walk.proofs.Passing.{by_quiet, quiet_is, passed_due, passed_rows}
use Rattle.totals.specs.declared.Sums.{Sums}
use Rattle.totals.specs.Totals.{rank_number, rank_of, no_sums, one_more, added_for, sums_from, sums_behind, total_check}
use Rattle.totals.specs.Totals.{mesh_totals, layer_totals, area_totals, total_checks, fourth, stage_three}
use Rattle.totals.specs.Adding.{Addable}
use Rattle.totals.specs.declared.Rank.{Rank}
use Rattle.totals.specs.contracts.RankPartialOrd.TheImpl as order
use Rattle.std.specs.Ordering.{partial_le}

-- ---- sums stay small

pub none_addable : (k : ℕ) → Addable k no_sums
none_addable k = record { records = omega arith; nodes = omega arith; lines = omega arith; areas = omega arith; entries = omega arith }

pub most_addable : (k : ℕ) {s : Sums} → k ≤ 6399936 → Addable k s → Addable 6399936 s
most_addable k l a = record {
  records = omega (arith, a.records);
  nodes = omega (arith, a.nodes);
  lines = omega (arith, a.lines);
  areas = omega (arith, a.areas);
  entries = omega (arith, a.entries);
}

-- what a record adds to the sums: itself, and to each of the others a number of six digits at most
pub record Grown (s u : Sums) : Type 0 where
  pub records : u.records ≡ s.records + 1
  pub nodes : u.nodes ≤ s.nodes + 999999
  pub lines : u.lines ≤ s.lines + 999999
  pub areas : u.areas ≤ s.areas + 999999
  pub entries : u.entries ≤ s.entries + 999999

one_grown : (s : Sums) → Grown s (one_more s)
one_grown s = record { records = refl; nodes = omega arith; lines = omega arith; areas = omega arith; entries = omega arith }

pub added_grown : (d : Due) (s : Sums) (t : List ℕ) → Grown s (added_for d s t)
added_grown (Mesh last) s t = one_grown s
added_grown (Layer last) s t = record {
  records = refl;
  nodes = omega (arith, size_small t 5 5);
  lines = omega (arith, size_small t 10 5);
  areas = omega (arith, size_small t 15 5);
  entries = omega arith;
}
added_grown (Node layer last) s t = one_grown s
added_grown (Line layer last letters) s t = one_grown s
added_grown (Coordinates left) s t = one_grown s
added_grown (Area layer last) s t = one_grown s
added_grown (Loop last count zero) s t = record {
  records = refl;
  nodes = omega arith;
  lines = omega arith;
  areas = omega arith;
  entries = omega (arith, size_small t 6 4);
}
added_grown (Loop last count (suc left)) s t = one_grown s

grown_addable : (k : ℕ) {s u : Sums} → Grown s u → Addable k s → Addable (k + 1) u
grown_addable k g a = record {
  records = omega (arith, g.records, a.records);
  nodes = omega (arith, g.nodes, a.nodes);
  lines = omega (arith, g.lines, a.lines);
  areas = omega (arith, g.areas, a.areas);
  entries = omega (arith, g.entries, a.entries);
}

pub more_addable : (k : ℕ) (d : Due) (s : Sums) (t : List ℕ) {x : Sums} → x ≡ added_for d s t → Addable k s → Addable (k + 1) x
more_addable k d s t e a = rw e (grown_addable k (added_grown d s t) a)

-- ---- quiet records

-- the sums with h of them
abbrev pub quiet_more : Sums → ℕ → Sums
quiet_more s h = record { records = s.records + h; nodes = s.nodes; lines = s.lines; areas = s.areas; entries = s.entries }

quiet_rank : (d : Due) → is_quiet d ≡ true → 2 ≡ rank_of d
quiet_rank = by_quiet (λ d. 2 ≡ rank_of d) (λ layer last. refl) (λ left. refl)

quiet_adds : (s : Sums) (t : List ℕ) (d : Due) → is_quiet d ≡ true → one_more s ≡ added_for d s t
quiet_adds s t = by_quiet (λ d. one_more s ≡ added_for d s t) (λ layer last. refl) (λ left. refl)

pub quiet_addable : (k h : ℕ) {s : Sums} → Addable k s → Addable (k + h) (quiet_more s h)
quiet_addable k h a = record {
  records = omega (arith, a.records);
  nodes = omega (arith, a.nodes);
  lines = omega (arith, a.lines);
  areas = omega (arith, a.areas);
  entries = omega (arith, a.entries);
}

-- ---- ranks

-- the code compares ranks as their numbers
rank_le : (x y : Rank) → partial_le (order.partial_cmp-value).it x y ≡ leb (rank_number x) (rank_number y)
rank_le x y = grind arith

pub at_most_rank : (x y : Rank) {b : Bool} → b ≡ partial_le (order.partial_cmp-value).it x y → b ≡ true → rank_number x ≤ rank_number y
at_most_rank x y e t = leb-true _ _ (sym (rank_le x y) ∙ sym e ∙ t)

pub above_rank : (x y : Rank) {b : Bool} → b ≡ partial_le (order.partial_cmp-value).it x y → b ≡ false → rank_number y < rank_number x
above_rank x y e t = leb-false _ _ (sym (rank_le x y) ∙ sym e ∙ t)

-- ---- the loop over what follows

module _ (r : ℕ) (file : List ℕ) where
  pub sums_start : (k : ℕ) → sums_from r file k (records_of file - k) no_sums ≡ sums_behind r file k
  unfolding sums_behind
  sums_start k = refl

  -- one record more
  sums_step : (i : ℕ) (s : Sums) → i < records_of file
      → sums_from r file i (records_of file - i) s
      ≡ cond (leb (rank_of (due_of (state_at file i))) r) s
      (sums_from r file (i + 1) (records_of file - (i + 1)) (added_for (due_of (state_at file i)) s (record_of file (i + 1))))
  unfolding sums_from
  sums_step i s l =
      let e : records_of file - i ≡ suc (records_of file - (i + 1)) = omega arith in
      rw (e, add-one)

  -- the next of its rank or above is due
  pub sums_stop : (i : ℕ) {u : State} {d : Due} {s z : Sums} {m : ℕ} → i < records_of file → u ≡ state_at file i → d ≡ due_of u → m ≡ rank_of d → m ≤ r
      → sums_from r file i (records_of file - i) s ≡ z → s ≡ z
  sums_stop i {u} {d} {s} {z} {m} l g e f h q =
      let t : leb (rank_of (due_of (state_at file i))) r ≡ true = rw (← g, ← e, ← f) (le-leb m r h) in
      sym (rw t at (sums_step i s l)) ∙ q

  -- another is
  pub sums_more : (i : ℕ) (s : Sums) {u : State} {d : Due} {t : List ℕ} {x z : Sums} {m : ℕ} → i < records_of file
      → u ≡ state_at file i → d ≡ due_of u → m ≡ rank_of d → r < m → t ≡ record_of file (i + 1) → x ≡ added_for d s t
      → sums_from r file i (records_of file - i) s ≡ z → sums_from r file (i + 1) (records_of file - (i + 1)) x ≡ z
  sums_more i s {u} {d} {t} {x} {z} {m} l g e f h y a q =
      let b : leb (rank_of (due_of (state_at file i))) r ≡ false = rw (← g, ← e, ← f) (lt-leb m r h) in
      rw (a, y, e, g) (sym (rw b at (sums_step i s l)) ∙ q)

  -- quiet ones are, which do not end the sums
  pub sums_quiet : (i : ℕ) (s : Sums) {h : ℕ} {u : State} {z : Sums} → u ≡ state_at file i → Quiet u h → (0 < h → r < 2) → (j : ℕ) → j ≤ h
      → i + j ≤ records_of file → sums_from r file i (records_of file - i) s ≡ z → sums_from r file (i + j) (records_of file - (i + j)) (quiet_more s j) ≡ z
  sums_quiet i s e q f zero l m g = simp add-zero g
  sums_quiet i s {h} {u} {z} e q f (suc j) l m g =
      let d = due_of (state_at file (i + j)) in
      let k : is_quiet d ≡ true = rw (passed_due file i e q j (omega arith)) (quiet_is u j) in
      let o : s.records + j + 1 ≡ s.records + suc j = omega arith in
      let p : i + j + 1 ≡ i + suc j = omega arith in
      rw (← p, ← o) (sums_more (i + j) (quiet_more s j) (omega arith) refl refl (quiet_rank d k) (f (omega arith)) refl
      (quiet_adds (quiet_more s j) (record_of file (i + j + 1)) d k) (sums_quiet i s e q f j (omega arith) (omega arith) g))

  -- none is left
  pub sums_end : (i : ℕ) {s z : Sums} → records_of file ≤ i → sums_from r file i (records_of file - i) s ≡ z → s ≡ z
  unfolding sums_from
  sums_end i l q =
      let e : records_of file - i ≡ 0 = omega arith in
      rw e at q

-- ---- totals

-- a total x, read as m, against the count y
module _ (r c x y : ℕ) {m : ℕ} (e : m ≡ x) where
  pub total_broken : (m ≡ y → ⊥) → Broken 10 r c ≡ first_broken (block fourth r (check c 10 (eqb x y) ∷ []))
  total_broken h = sym (check_broken fourth r c 10 (eqb x y) [] (rw (← e) (ne_eqb m y h)))

  pub total_kept : m ≡ y → Fine ≡ first_broken (block fourth r (check c 10 (eqb x y) ∷ []))
  total_kept h = check_none fourth r ∙ sym (check_kept fourth r c 10 (eqb x y) [] (rw (← e) (eq-eqb m y h)))

-- ---- a record's totals, by the code's arms

-- an H has one: of what follows it in its layer
pub layer_arm : (file : List ℕ) (k : ℕ) {d : Due} {t : List ℕ} {s : Sums} {v : Verdict} {last : ℕ}
    → d ≡ Layer last → t ≡ record_of file (k + 1) → s ≡ sums_behind 1 file (k + 1)
    → v ≡ first_broken (block fourth (k + 1) (total_check t layer_records s.records ∷ [])) → v ≡ first_broken (block fourth (k + 1) (total_checks d file k))
unfolding layer_totals
layer_arm file k e f g h = rw (e, ← f, ← g) h

-- any but an M, an H or an A has none
pub none_arm : (file : List ℕ) (k : ℕ) (d : Due) → ((last : ℕ) → d ≡ Mesh last → ⊥) → ((last : ℕ) → d ≡ Layer last → ⊥)
    → ((layer last : ℕ) → d ≡ Area layer last → ⊥) → Fine ≡ first_broken (block fourth (k + 1) (total_checks d file k))
none_arm _ k (Mesh last) m h a = absurd (m last refl)
none_arm _ k (Layer last) m h a = absurd (h last refl)
none_arm _ k (Node layer last) m h a = check_none fourth (k + 1)
none_arm _ k (Line layer last letters) m h a = check_none fourth (k + 1)
none_arm _ k (Coordinates left) m h a = check_none fourth (k + 1)
none_arm _ k (Area layer last) m h a = absurd (a layer last refl)
none_arm _ k (Loop last count left) m h a = check_none fourth (k + 1)

-- ---- the loop over all records

-- the rules of record k + 1
abbrev pub totals_of : List ℕ → ℕ → List Rule
totals_of file k = block fourth (k + 1) (total_checks (due_of (state_at file k)) file k)

pub rule_is : (file : List ℕ) (k : ℕ) {s : State} {d : Due} {v : Verdict} → s ≡ state_at file k → d ≡ due_of s
    → v ≡ first_broken (block fourth (k + 1) (total_checks d file k)) → v ≡ first_broken (totals_of file k)
rule_is file k e f h = rw (← e, ← f) h

-- a quiet record has no totals
quiet_kept : (file : List ℕ) (k : ℕ) (d : Due) → is_quiet d ≡ true → first_broken (block fourth (k + 1) (total_checks d file k)) ≡ Fine
quiet_kept file k =
    by_quiet (λ d. first_broken (block fourth (k + 1) (total_checks d file k)) ≡ Fine)
    (λ layer last. sym (check_none fourth (k + 1))) (λ left. sym (check_none fourth (k + 1)))

pub three_quiet : (file : List ℕ) (k : ℕ) {h : ℕ} {s : State} → s ≡ state_at file k → Quiet s h
    → first_broken (rows k (totals_of file)) ≡ Fine → first_broken (rows (k + h) (totals_of file)) ≡ Fine
three_quiet file k e q = passed_rows file k e q (totals_of file) (λ i. quiet_kept file i (due_of (state_at file i)))

module _ (file : List ℕ) {n : ℕ} (e : n ≡ records_of file) where
  pub three_stops : (k : ℕ) {v : Verdict} {r : Refusal} → v ≡ Err r → v ≡ first_broken (totals_of file k)
      → first_broken (rows k (totals_of file)) ≡ Fine → k < n → v ≡ first_broken (stage_three file)
  unfolding stage_three
  three_stops k q h f l = rows_stop (totals_of file) (records_of file) k (omega (arith, e)) f h q

  pub three_done : (k : ℕ) → first_broken (rows k (totals_of file)) ≡ Fine → k ≤ n → n ≤ k → Fine ≡ first_broken (stage_three file)
  unfolding stage_three
  three_done k f l m = rows_done (totals_of file) (records_of file) k (omega (arith, e)) (omega (arith, e)) f

-- ---- the rules in the order of judgement

total_rising : (d : Due) (file : List ℕ) (k : ℕ) → rising (total_checks d file k) ≡ true
unfolding mesh_totals layer_totals area_totals
total_rising (Mesh last) _ _ = refl
total_rising (Layer last) _ _ = refl
total_rising (Node layer last) _ _ = refl
total_rising (Line layer last letters) _ _ = refl
total_rising (Coordinates left) _ _ = refl
total_rising (Area layer last) _ _ = refl
total_rising (Loop last count left) _ _ = refl

pub three_sorted : (file : List ℕ) → Sorted (stage_three file)
unfolding stage_three
three_sorted file = rows_sorted fourth (λ k. total_checks (due_of (state_at file k)) file k) (records_of file) (λ k. total_rising (due_of (state_at file k)) file k)

pub three_of : (file : List ℕ) → Of fourth (stage_three file)
unfolding stage_three
three_of file a i = (rows_in fourth (λ k. total_checks (due_of (state_at file k)) file k) (records_of file) a i).0

-- every one has a number above 9
total_numbered : (d : Due) (file : List ℕ) (k : ℕ) → numbered ten_to18 (total_checks d file k) ≡ true
unfolding mesh_totals layer_totals area_totals
total_numbered (Mesh last) _ _ = refl
total_numbered (Layer last) _ _ = refl
total_numbered (Node layer last) _ _ = refl
total_numbered (Line layer last letters) _ _ = refl
total_numbered (Coordinates left) _ _ = refl
total_numbered (Area layer last) _ _ = refl
total_numbered (Loop last count left) _ _ = refl

pub three_numbered : (file : List ℕ) → Numbered ten_to18 (stage_three file)
unfolding stage_three
three_numbered file =
    rows_numbered ten_to18 (records_of file) (totals_of file)
    (λ k. block_numbered ten_to18 fourth (k + 1) (total_checks (due_of (state_at file k)) file k) (total_numbered (due_of (state_at file k)) file k))
