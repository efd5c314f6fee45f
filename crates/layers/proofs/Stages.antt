-- A stage that judges each record by where the walk stands: its loop leaves at the first broken rule and passes records that break none;
-- and its rules stand in the order of RULES 6.1. Assumes nothing.
use mathlib.Core.Bool.{true}
use mathlib.Core.List.{List, []}
use mathlib.Core.Path.{◌≡◌, sym, ◌∙◌, ap}
use Prim.Native.Nat.{ℕ, ◌+◌, ◌≤◌, ◌<◌}
use native.Mathlib.Omega.{arith}
use Rattle.std.specs.Prelude.{Err}
use Rattle.verdict.specs.declared.Refusal.{Refusal}
use Rattle.verdict.specs.Rules.{Verdict, Fine, Check, first_broken, block, rows}
use Rattle.verdict.specs.Order.{Sorted, rising}
use Rattle.verdict.proofs.Parts.{check_none, rows_none, rows_pass, rows_past, rows_stop, rows_done}
use Rattle.verdict.proofs.Numbers.{ten_to18, numbered, Numbered, block_numbered, rows_numbered}
use Rattle.verdict.proofs.Orders.{Of, rows_sorted, rows_in}
use Rattle.walk.specs.States.{due_of}
use Rattle.walk.specs.Stages.{records_of}
use Rattle.walk.specs.Quiet.{is_quiet}
use Rattle.walk.proofs.Passing.{quiet_is}
use Rattle.layers.specs.declared.Bases.{Bases}
use Rattle.layers.specs.declared.Standing.{Standing}
use Rattle.layers.specs.Standing.{standing_at, quiet_in, past_by, rules_at, stage_of}
use Rattle.layers.proofs.Walks.{Stands, records_are, are_quiet, past_is}

-- a record's checks stand in the order of RULES 6.1, and every one has a number above 9; both compute
abbrev pub Orderly : List Check → Type 0
Orderly cs = (rising cs ≡ true) × (numbered ten_to18 cs ≡ true)

-- at the turn `turn`, with the checks g of the record that comes next
module _ (turn : ℕ) (g : Standing → List Check) where
  -- what they come to where the walk stands at x
  abbrev pub verdict_at : Standing → Verdict
  verdict_at x = first_broken (block turn (x.records + 1) (g x))

  module _ (file t : List ℕ) (b : Bases) where
    -- the records before keep their rules
    abbrev pub Passed : Standing → Type 0
    Passed x = first_broken (rows x.records (rules_at turn g file t b)) ≡ Fine

    -- ---- the loop

    pub passed_first : {x : Standing} → x ≡ standing_at file t b 0 → Passed x
    passed_first e = rw (records_are file t b e) (rows_none (rules_at turn g file t b))

    module _ {x : Standing} (e : x ≡ standing_at file t b x.records) where
      rule_is : verdict_at x ≡ first_broken (rules_at turn g file t b x.records)
      rule_is = ap (λ (y : Standing). first_broken (block turn (x.records + 1) (g y))) e

      -- the next record, with the verdict v, keeps them too
      pub passed_more : {y : Standing} {v : Verdict} → y ≡ standing_at file t b (x.records + 1) → v ≡ verdict_at x → v ≡ Fine → Passed x → Passed y
      passed_more q h z f = rw (records_are file t b q) (rows_pass (rules_at turn g file t b) x.records f (h ∙ rule_is) z)

      -- so do the quiet ones that come next
      module _ (most : ℕ) {y : Standing} (q : y ≡ past_by x (quiet_in file most x)) where
        pub passed_past : ((j : ℕ) → j < quiet_in file most x → verdict_at (past_by x j) ≡ Fine) → Passed x → Passed y
        passed_past w f = rw q (rows_past (rules_at turn g file t b) x.records (quiet_in file most x) f (λ j i.
            let p = past_is file t b e (are_quiet file most x) j (omega arith) in
            sym (ap (λ (z : Standing). first_broken (block turn (x.records + j + 1) (g z))) p) ∙ w j i))

        -- nothing is asked of them
        pub passed_quiet : ((z : Standing) → is_quiet (due_of z.state) ≡ true → g z ≡ []) → Passed x → Passed y
        passed_quiet w =
            passed_past (λ j i.
            rw (w (past_by x j) (rw ((are_quiet file most x).quiet j i) (quiet_is x.state j)))
            (sym (check_none turn (x.records + j + 1))))

      -- the verdict v of the next record is broken and is returned
      pub stage_stops : {n : ℕ} → n ≡ records_of file → x.records < n → {v : Verdict} {r : Refusal} → v ≡ verdict_at x → v ≡ Err r → Passed x
          → v ≡ first_broken (stage_of turn g file t b)
      stage_stops m l h z f = rows_stop (rules_at turn g file t b) (records_of file) x.records (omega (arith, m)) f (h ∙ rule_is) z

    -- all records were fine
    pub stage_done : {x : Standing} → Stands file t b x → {n : ℕ} → n ≡ records_of file → n ≤ x.records → Passed x
        → Fine ≡ first_broken (stage_of turn g file t b)
    stage_done p r l f = rows_done (rules_at turn g file t b) (records_of file) _ p.within (omega (arith, r)) f

    -- ---- the order

    module _ (h : (x : Standing) → Orderly (g x)) where
      pub stage_sorted : Sorted (stage_of turn g file t b)
      stage_sorted = rows_sorted turn (λ k. g (standing_at file t b k)) (records_of file) (λ k. (h (standing_at file t b k)).0)

      pub stage_numbered : Numbered ten_to18 (stage_of turn g file t b)
      stage_numbered =
          rows_numbered ten_to18 (records_of file) (rules_at turn g file t b)
          (λ k. block_numbered ten_to18 turn (k + 1) (g (standing_at file t b k)) (h (standing_at file t b k)).1)

    pub stage_of_lem : Of turn (stage_of turn g file t b)
    stage_of_lem a i = (rows_in turn (λ k. g (standing_at file t b k)) (records_of file) a i).0
