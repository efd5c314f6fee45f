-- The areas' lines, record by record: what a record adds to the text and to the areas, and which measures are shown. Assumes nothing.
use mathlib.Core.Path.{◌≡◌, refl, ap₂}
use mathlib.Core.List.{List, [], ◌++◌}
use Prim.Native.Nat.{ℕ, zero, suc, ◌+◌, ◌/◌, ◌≤◌, ◌<◌}
use native.Mathlib.Numerals.{add-one}
use native.Mathlib.Omega.{arith}
use lib.IntN.{ℤ, pos}
use lib.ListN.{length, get_or, get_or-append}
use Rattle.std.proofs.Common.{append-nil}
use borrow.Author.Tests.{le-ltb}
use Rattle.records.specs.View.{record_of}
use Rattle.rules.specs.declared.Due.{Due}
use Rattle.rules.specs.declared.Due.TheVariants.{Mesh, Layer, Node, Line, Coordinates, Area, Loop}
use Rattle.walk.specs.declared.State.{State}
use Rattle.walk.specs.declared.Counts.{Counts}
use Rattle.walk.specs.States.{due_of, state_at, counted_for, counts_at}
use Rattle.walk.specs.Stages.{records_of}
use Rattle.walk.proofs.Dues.{grown}
use Rattle.report.specs.Texts.{shown_in, area_text, record_text, areas_text}

-- the bound of the programs' input
pub few_records : (file : List ℕ) → length file ≤ 65490 → records_of file ≤ 885
unfolding records_of
few_records file h = rw (le-ltb 6399936 (length file / 74) (omega arith)) (omega arith)

-- ---- a record more

none_in : (d : Due) (c : Counts) (s : State) (t : List ℕ) (m : ℤ) → ((layer last : ℕ) → d ≡ Area layer last → ⊥)
    → (record_text d s t m ≡ []) × ((counted_for d c t).areas ≡ c.areas)
unfolding record_text
none_in (Mesh last) c s t m h = (refl, refl)
none_in (Layer last) c s t m h = (refl, refl)
none_in (Node layer last) c s t m h = (refl, refl)
none_in (Line layer last letters) c s t m h = (refl, refl)
none_in (Coordinates left) c s t m h = (refl, refl)
none_in (Area layer last) c s t m h = absurd (h layer last refl)
none_in (Loop last count left) c s t m h = (refl, refl)

module _ (file : List ℕ) (ms : List ℤ) (k : ℕ) where
  -- the text and the areas of the first k + 1 records
  pub record More (line : List ℕ) (n : ℕ) : Type 0 where
    pub text : areas_text file ms (k + 1) ≡ line
    pub areas : (counts_at file (k + 1)).areas ≡ n

  -- an A
  pub area_more : {layer last : ℕ} → due_of (state_at file k) ≡ Area layer last
      → More (areas_text file ms k ++ area_text (shown_in (state_at file k) (record_of file (k + 1))) (get_or ms (counts_at file k).areas (pos 0))) ((counts_at file k).areas + 1)
  unfolding areas_text record_text counts_at
  area_more e = record { text = rw (add-one k, e); areas = rw (add-one k, e) }

  -- any other record
  pub none_more : ((layer last : ℕ) → due_of (state_at file k) ≡ Area layer last → ⊥) → More (areas_text file ms k) (counts_at file k).areas
  unfolding areas_text counts_at
  none_more h =
      let none = none_in (due_of (state_at file k)) (counts_at file k) (state_at file k) (record_of file (suc k)) (get_or ms (counts_at file k).areas (pos 0)) h in
      record { text = rw (add-one k, none.0) (append-nil _); areas = rw (add-one k) none.1 }

-- ---- the measures

-- only an A's line shows its measure
same_record : (d : Due) (c : Counts) (s : State) (t : List ℕ) {m n : ℤ} → (c.areas < (counted_for d c t).areas → m ≡ n)
    → record_text d s t m ≡ record_text d s t n
unfolding record_text
same_record (Mesh last) c s t h = refl
same_record (Layer last) c s t h = refl
same_record (Node layer last) c s t h = refl
same_record (Line layer last letters) c s t h = refl
same_record (Coordinates left) c s t h = refl
same_record (Area layer last) c s t h = rw (h (omega arith))
same_record (Loop last count left) c s t h = refl

-- where there is one for each area, what stands behind them is not shown
pub areas_told : (file : List ℕ) (ms rest : List ℤ) → length ms ≡ (counts_at file (records_of file)).areas → (k : ℕ) → k ≤ records_of file
    → areas_text file (ms ++ rest) k ≡ areas_text file ms k
unfolding areas_text counts_at
areas_told file ms rest e zero l = refl
areas_told file ms rest e (suc k) l =
    let g = (grown file (records_of file) (suc k) l).areas in
    ap₂ ◌++◌ (areas_told file ms rest e k (omega arith))
    (same_record (due_of (state_at file k)) (counts_at file k) (state_at file k) (record_of file (suc k))
    (λ one. get_or-append ms rest (pos 0) (counts_at file k).areas (omega (arith, g, e, one))))
