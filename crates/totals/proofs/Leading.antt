-- A RECORDS TOTAL LEADS ON (RULES 6.6): in a file that keeps stage 3, behind an M whose total is n stand n records that are no M, and behind
-- these the next M, or the file ends; the same of an H, up to the next H or M. No other number does that. So the record that bears the total
-- is left out, and every other one of its mesh or layer is counted. Assumes nothing.
use mathlib.Core.Bool.{Bool, true, false}
use mathlib.Core.List.{List}
use mathlib.Core.Path.{◌≡◌, refl, ◌∙◌, ap}
use Prim.Native.Nat.{ℕ, zero, suc, ◌+◌, ◌-◌, ◌≤◌, ◌<◌}
use native.Mathlib.Nat.{add-zero, sub-zero}
use native.Mathlib.Omega.{arith}
use lib.Dec.{leb, eqb}
use borrow.Author.Tests.{leb-true, leb-false, eqb-true}
use Rattle.records.specs.View.{record_of}
use Rattle.records.specs.Columns.{mesh_records, layer_records}
use Rattle.verdict.specs.Rules.{Fine, first_broken}
use Rattle.verdict.proofs.Holding.{Holding, row_fine, all_hold}
use Rattle.rules.specs.declared.Due.{Due}
use Rattle.rules.specs.declared.Due.TheVariants.{Mesh, Layer}
use Rattle.walk.specs.States.{size_at, due_of, state_at}
use Rattle.walk.specs.Stages.{records_of}
use Rattle.totals.specs.declared.Sums.{Sums}
use Rattle.totals.specs.Totals.{rank_of, no_sums, added_for, sums_from, sums_behind, mesh_totals, layer_totals, total_checks, fourth, stage_three}
use Rattle.totals.specs.Leads.{Leads}
use Rattle.totals.proofs.Summing.{added_grown, sums_start, sums_stop, sums_more, sums_end, totals_of}

module _ (r : ℕ) (file : List ℕ) where
  -- no two numbers lead on from one record: what the smaller one leads to, the larger one passes
  at_most : (k m n : ℕ) → Leads r file k m → Leads r file k n → m ≤ n
  at_most k m n a b = by (leb m n) refl
    where
      by : (t : Bool) → leb m n ≡ t → m ≤ n
      by true l = leb-true m n l
      by false l =
          let h = leb-false m n l in
          absurd (omega (arith, a.between n h, b.next (omega (arith, a.inside, h))))

  pub leads_only : (k m n : ℕ) → Leads r file k m → Leads r file k n → m ≡ n
  leads_only k m n a b = omega (arith, at_most k m n a b, at_most k n m b a)

  -- nothing stands between
  none_lead : (k : ℕ) {n : ℕ} → n ≡ 0 → k ≤ records_of file → (k < records_of file → rank_of (due_of (state_at file k)) ≤ r) → Leads r file k n
  none_lead k e l h = rw e (record { inside = omega arith; between = λ i m. absurd (omega arith); next = rw add-zero h })

  -- one record more
  one_leads : (k : ℕ) {m n : ℕ} → n ≡ m + 1 → r < rank_of (due_of (state_at file k)) → Leads r file (k + 1) m → Leads r file k n
  one_leads k {m} {n} e h a =
      let p : k + 1 + m ≡ k + n = omega arith in
      record { inside = omega (arith, a.inside); between = passed; next = λ l. rw (← p) (a.next (omega arith)) }
    where
      passed : (i : ℕ) → i < n → r < rank_of (due_of (state_at file (k + i)))
      passed zero l = rw add-zero h
      passed (suc i) l =
          let p : k + 1 + i ≡ k + suc i = omega arith in
          rw (← p) (a.between i (omega arith))

  -- from s to z, what is counted behind the first k records leads on from them
  abbrev Counted : ℕ → Sums → Sums → Type 0
  Counted k s z = (s.records ≤ z.records) × Leads r file k (z.records - s.records)

  -- record k + 1 ends the sums, or it is one more of them
  by_rank : (k : ℕ) (s : Sums) {x z : Sums} (t : Bool) → k < records_of file → leb (rank_of (due_of (state_at file k))) r ≡ t
      → x ≡ added_for (due_of (state_at file k)) s (record_of file (k + 1)) → sums_from r file k (records_of file - k) s ≡ z
      → (sums_from r file (k + 1) (records_of file - (k + 1)) x ≡ z → Counted (k + 1) x z) → Counted k s z
  by_rank k s true l t f q c =
      let h = leb-true _ _ t in
      let g = ap (λ (u : Sums). u.records) (sums_stop r file k l refl refl refl h q) in
      (omega arith, none_lead k (omega arith) (omega arith) (λ m. h))
  by_rank k s false l t f q c =
      let h = leb-false _ _ t in
      let a = c (sums_more r file k s l refl refl refl h refl f q) in
      let g = ap (λ (u : Sums). u.records) f ∙ (added_grown (due_of (state_at file k)) s (record_of file (k + 1))).records in
      (omega (arith, a.0), one_leads k (omega (arith, a.0)) h a.1)

  records_lead : (n k : ℕ) (s : Sums) {z : Sums} → k + n ≡ records_of file → sums_from r file k (records_of file - k) s ≡ z → Counted k s z
  records_lead zero k s e q =
      let g = ap (λ (u : Sums). u.records) (sums_end r file k (omega arith) q) in
      (omega arith, none_lead k (omega arith) (omega arith) (λ l. absurd (omega arith)))
  records_lead (suc n) k s e q =
      let more = added_for (due_of (state_at file k)) s (record_of file (k + 1)) in
      by_rank k s _ (omega arith) refl refl q (records_lead n (k + 1) more (omega arith))

  -- what was counted behind a record leads on from it
  counted_lead : (k : ℕ) → k ≤ records_of file → Leads r file k (sums_behind r file k).records
  counted_lead k l = rw sub-zero at (records_lead (records_of file - k) k no_sums (omega arith) (sums_start r file k)).1

  -- and so does a total that is as much
  total_leads : (k n : ℕ) → k ≤ records_of file → eqb n (sums_behind r file k).records ≡ true → Leads r file k n
  total_leads k n l e = rw (eqb-true n _ e) (counted_lead k l)

-- in a file that keeps stage 3, the total of an M leads to the next M, and that of an H to the next H or M
module _ (file : List ℕ) (h : first_broken (stage_three file) ≡ Fine) (k : ℕ) (l : k < records_of file) where
  checks_hold : {d : Due} → due_of (state_at file k) ≡ d → Holding (total_checks d file k)
  unfolding stage_three
  checks_hold e = rw (← e) (all_hold fourth (k + 1) _ (row_fine (totals_of file) (records_of file) h k l))

  pub mesh_leads : {last : ℕ} → due_of (state_at file k) ≡ Mesh last → Leads 0 file (k + 1) (size_at (record_of file (k + 1)) mesh_records)
  unfolding mesh_totals
  mesh_leads e = total_leads 0 file (k + 1) _ (omega arith) (checks_hold e).1.1.1.0

  pub layer_leads : {last : ℕ} → due_of (state_at file k) ≡ Layer last → Leads 1 file (k + 1) (size_at (record_of file (k + 1)) layer_records)
  unfolding layer_totals
  layer_leads e = total_leads 1 file (k + 1) _ (omega arith) (checks_hold e).0
