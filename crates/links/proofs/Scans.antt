-- Rows of slots, of an N or of an area: which slots are clean, at which one the scan for a repeated entry stops, and slots that are judged
-- one by one. Assumes nothing.
use mathlib.Core.Bool.{Bool, true, false, not, ◌||◌, false≢true}
use mathlib.Core.List.{List}
use mathlib.Core.Logic.{⊎_elim}
use mathlib.Core.Path.{◌≡◌, refl, sym, ◌∙◌}
use Prim.Native.Nat.{ℕ, zero, suc, ◌+◌, ◌-◌, ◌/◌, ◌%◌, ◌≤◌, ◌<◌}
use native.Mathlib.Nat.{zero-add, le_of_suc-le-suc, not-suc-le-zero, eq-or-lt_of_le}
use native.Mathlib.Numerals.{add-one}
use native.Mathlib.Omega.{arith}
use lib.Dec.{eqb}
use lib.IntN.{ℤ, pos}
use lib.ListN.{length, get_or}
use borrow.Author.Tests.{eq-eqb, ne_eqb}
use Rattle.std.specs.Prelude.{Err}
use Rattle.std.specs.Bool.{MatchBool}
use Rattle.std.specs.List.{range_with_len, HoldsAt, AllWithin}
use Rattle.std.proofs.lemmas.List.FromFn.{length-range_with_len, get_or-range_with_len}
use Rattle.records.proofs.Numbers.{record_past, number_none}
use Rattle.verdict.specs.declared.Refusal.{Refusal}
use Rattle.verdict.specs.Rules.{Verdict, Fine, Rule, Check, first_broken, block, rows, spread}
use Rattle.verdict.proofs.Parts.{spread_rows, rows_stop, rows_done}
use Rattle.permitted.specs.Permitted.{is_zero}
use Rattle.links.specs.Links.{equal, some, loop_entry, slot_of}
use Rattle.links.specs.Scanning.{clean, FirstRepeat}

-- ---- some of the first n

pub some_hit : (n j : ℕ) (f : ℕ → Bool) → j < n → f j ≡ true → some n f ≡ true
unfolding some
some_hit zero j f l e = absurd (not-suc-le-zero l)
some_hit (suc n) j f l e =
    ⊎_elim
    (λ q. at_end (some n f) (f n) (rw q at e))
    (λ q. rw (some_hit n j f q e))
    (eq-or-lt_of_le (le_of_suc-le-suc l))
  where
    at_end : (a b : Bool) → b ≡ true → a || b ≡ true
    at_end true b e = refl
    at_end false b e = e

some_never : (n : ℕ) (f : ℕ → Bool) → ((j : ℕ) → j < n → f j ≡ false) → some n f ≡ false
unfolding some
some_never zero f h = refl
some_never (suc n) f h = rw (some_never n f (λ j l. h j (omega arith)), h n (omega arith))

-- as code has it: the answer r of `any` over the first n, each told where it is below m
pub any_told : (n m : ℕ) (f : ℕ → Bool) → n ≤ m → (r : Bool)
    → MatchBool r ((k : ℕ) × (k < length (range_with_len 0 n)) × HoldsAt (λ j. j < m → f j ≡ true) (range_with_len 0 n) k)
    (AllWithin (λ j. j < m → f j ≡ false) (range_with_len 0 n) 0 (length (range_with_len 0 n)))
    → r ≡ some n f
any_told n m f l true h =
    let k : h.0 < n = omega (arith, length-range_with_len 0 n, h.1) in
    let g : get_or (range_with_len 0 n) h.0 0 ≡ h.0 = get_or-range_with_len 0 n h.0 0 k ∙ zero-add h.0 in
    sym (some_hit n h.0 f k (rw g at (h.2 0) (omega arith)))
any_told n m f l false h =
    sym (some_never n f (λ j i.
    let g : get_or (range_with_len 0 n) j 0 ≡ j = get_or-range_with_len 0 n j 0 i ∙ zero-add j in
    rw g at (h j 0 (omega arith) (omega (arith, length-range_with_len 0 n))) (omega arith)))

-- ---- clean slots

or_true : (b : Bool) → (b || true) ≡ true
or_true true = refl
or_true false = refl

module _ (f : ℕ → ℤ) (e : ℕ) where
  -- what is no entry is clean
  pub none_clean : is_zero (f e) ≡ true → clean f e ≡ true
  unfolding clean
  none_clean z = rw z

  -- so is an entry that no earlier slot is like
  pub unlike_clean : ((k : ℕ) → k < e → equal (f e) (f k) ≡ false) → clean f e ≡ true
  unfolding clean
  unlike_clean h = rw (some_never e (λ k. equal (f e) (f k)) h) (or_true (is_zero (f e)))

  -- one is not where an earlier slot is like it
  pub like_not_clean : (k : ℕ) → is_zero (f e) ≡ false → k < e → equal (f e) (f k) ≡ true → clean f e ≡ false
  unfolding clean
  like_not_clean k z l q = rw (z, some_hit e k (λ j. equal (f e) (f j)) l q)

-- one slot more of those from a to b that have the bit t
pub one_further : (g : ℕ → Bool) (t : Bool) (a b : ℕ) → ((k : ℕ) → a ≤ k → k < b → g k ≡ t) → g b ≡ t → (k : ℕ) → a ≤ k → k < b + 1 → g k ≡ t
one_further g t a b h e k m l = ⊎_elim (λ q. rw q e) (λ o. h k m o) (eq-or-lt_of_le (omega (arith, l)))

-- the scan from slot `from` to the one before `to` passed those before x: x is the end, or not clean
module _ (f : ℕ → ℤ) (from to : ℕ) (l : from ≤ to) where
  pub all_passed : ((k : ℕ) → from ≤ k → k < to → clean f k ≡ true) → FirstRepeat f from (to - from) (to - from)
  all_passed h = record {
    within = omega arith;
    before = λ i m. h (from + i) (omega arith) (omega arith);
    found = λ m. absurd (omega arith);
  }

  pub stopped_at : (x : ℕ) → from ≤ x → x < to → ((k : ℕ) → from ≤ k → k < x → clean f k ≡ true) → clean f x ≡ false
      → FirstRepeat f from (to - from) (x - from)
  stopped_at x m o h e =
      let z : from + (x - from) ≡ x = omega arith in
      record {
        within = omega arith;
        before = λ i q. h (from + i) (omega arith) (omega arith);
        found = λ q. rw z e;
      }

-- ---- the slot at which the scan stopped

-- of n slots from slot `from` on it is number x, and number i is no later
module _ (f : ℕ → ℤ) (from n x i : ℕ) (s : FirstRepeat f from n x) (l : i < n) (m : i ≤ x) where
  -- it repeats an earlier one exactly where it is that slot
  pub repeats_at : eqb i x ≡ not (clean f (from + i))
  repeats_at =
      ⊎_elim
      (λ q. eq-eqb i x q ∙ rw (q, s.found (rw q at l)))
      (λ q. ne_eqb i x (λ e. omega arith) ∙ rw (s.before i q))
      (eq-or-lt_of_le m)

  -- a slot that is clean is not that slot
  pub goes_past : clean f (from + i) ≡ true → i + 1 ≤ x
  goes_past e =
      ⊎_elim
      (λ q. absurd (false≢true (sym (s.found (rw q at l)) ∙ rw q at e)))
      (λ q. rw add-one q)
      (eq-or-lt_of_le m)

-- ---- slots that are judged one by one

-- the rules of slot i of the record `row`, at a turn, with the checks g of a slot
abbrev pub slot_rules : ℕ → ℕ → (ℕ → List Check) → ℕ → List Rule
slot_rules turn row g i = block turn row (g i)

module _ (turn row n : ℕ) (g : ℕ → List Check) where
  -- the verdict v of slot i is broken and is returned
  pub slots_stop : (i : ℕ) {v : Verdict} {e : Refusal} → v ≡ Err e → v ≡ first_broken (slot_rules turn row g i)
      → first_broken (rows i (slot_rules turn row g)) ≡ Fine → i < n → v ≡ first_broken (block turn row (spread n g))
  slots_stop i q h f m = rw (spread_rows turn row n g) (rows_stop (slot_rules turn row g) n i m f h q)

  -- all slots were fine
  pub slots_done : (i : ℕ) → first_broken (rows i (slot_rules turn row g)) ≡ Fine → i ≤ n → n ≤ i → Fine ≡ first_broken (block turn row (spread n g))
  slots_done i f m o = rw (spread_rows turn row n g) (rows_done (slot_rules turn row g) n i m o f)

-- ---- loop records

-- the first slots are those of the first record
pub slot_first : (file : List ℕ) (f i : ℕ) → i < 12 → slot_of file f i ≡ loop_entry file f i
unfolding slot_of
slot_first file f i l =
    let p : f + i / 12 ≡ f = omega arith in
    let q : i % 12 ≡ i = omega arith in
    rw (p, q)

-- a record that the file has not
pub slot_past : (file : List ℕ) (f e : ℕ) → length file / 74 < f → slot_of file f e ≡ pos 0
unfolding slot_of loop_entry
slot_past file f e h = number_none file (f + e / 12) _ 5 (record_past file (f + e / 12) (omega arith))
