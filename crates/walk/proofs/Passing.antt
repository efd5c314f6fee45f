-- Quiet records, passed in one step: the state, the counts and the table behind them, and what they are due as. Assumes nothing.
use mathlib.Core.Bool.{Bool, true, false, cond, ◌&&◌, ◌||◌, false≢true}
use mathlib.Core.List.{List, [], append-nil}
use mathlib.Core.Path.{◌≡◌, refl, sym, ◌∙◌, ap}
use Prim.Native.Nat.{ℕ, zero, suc, ◌+◌, ◌-◌, ◌*◌, ◌/◌, ◌≤◌, ◌<◌, min}
use native.Mathlib.Nat.{add-zero, add-suc, min-le_left, min-le_right}
use native.Mathlib.Omega.{arith}
use lib.Dec.{leb, ltb}
use borrow.Author.Tests.{lt-ltb, le-ltb, ltb-true, ltb-false, leb-true, leb-false}
use Rattle.verdict.specs.Rules.{Fine, Rule, first_broken, is_fine, block, rows}
use Rattle.verdict.proofs.Parts.{fine_is, rows_past}
use Rattle.records.specs.View.{record_of}
use Rattle.rules.specs.Checks.{checks_of}
use Rattle.rules.specs.declared.Due.{Due}
use Rattle.rules.specs.declared.Due.TheVariants.{Mesh, Layer, Node, Line, Coordinates, Area, Loop}
use Rattle.walk.specs.declared.State.{State}
use Rattle.walk.specs.declared.Counts.{Counts}
use Rattle.walk.specs.States.{due_of, next_for, next_of, state_at, counted_for, counts_at}
use Rattle.walk.specs.Table.{gather}
use Rattle.walk.specs.Quiet.{is_quiet, passed, quiet_due, Quiet, quiet_ahead, counted_past, is_fine_at, fine_ahead}
use Rattle.walk.proofs.Dues.{by_due}
use Rattle.walk.proofs.Judging.{stage_two_rules}

-- ---- one more

-- none
no_nodes : (b : Bool) → ◌≡◌ {A = ℕ} (cond b 0 0) 0
no_nodes true = refl
no_nodes false = refl

pub passed_none : (s : State) → passed s 0 ≡ s
passed_none s =
    let n : s.layer.node + 0 ≡ s.layer.node = omega arith in
    let p : s.line.points - 7 * 0 ≡ s.line.points = omega arith in
    rw (no_nodes, n, p)

-- coordinates, or a node
one_by : (s : State) (j : ℕ) (t : List ℕ) (b : Bool) → ltb 0 s.line.points ≡ b → next_for (quiet_due s j) (passed s j) t ≡ passed s (suc j)
one_by s j t true e =
    let p : s.line.points - 7 * j - 7 ≡ s.line.points - 7 * suc j = omega arith in
    rw (e, p)
one_by s j t false e =
    let z = ltb-false 0 s.line.points e in
    let p : s.line.points - 7 * j ≡ s.line.points - 7 * suc j = omega arith in
    let n : s.layer.node + j + 1 ≡ s.layer.node + suc j = omega arith in
    rw (e, p, n)

passed_one : (s : State) (j : ℕ) (t : List ℕ) → due_of (passed s j) ≡ quiet_due s j → next_of (passed s j) t ≡ passed s (suc j)
unfolding next_of
passed_one s j t e = rw e (one_by s j t (ltb 0 s.line.points) refl)

counted_by : (c : Counts) (s : State) (j : ℕ) (t : List ℕ) (b : Bool) → ltb 0 s.line.points ≡ b
    → counted_for (quiet_due s j) (counted_past c s j) t ≡ counted_past c s (suc j)
counted_by c s j t true e = rw e
counted_by c s j t false e =
    let n : c.nodes + j + 1 ≡ c.nodes + suc j = omega arith in
    rw (e, n)

counted_none : (c : Counts) (s : State) → counted_past c s 0 ≡ c
counted_none c s =
    let n : c.nodes + 0 ≡ c.nodes = omega arith in
    rw (no_nodes, n)

-- the counts with h coordinate records
pub past_same : (c : Counts) (s : State) (h : ℕ) → 0 < s.line.points → c ≡ counted_past c s h
past_same c s h l = simp (lt-ltb 0 s.line.points l, add-zero)

-- the same, where there are coordinates or no record at all
pub past_counts : (c : Counts) (s : State) (h : ℕ) → (0 < h → 0 < s.line.points) → c ≡ counted_past c s h
past_counts c s zero l = sym (counted_none c s)
past_counts c s (suc h) l = past_same c s (suc h) (l (omega arith))

-- a fact of a quiet record, from both cases
pub by_quiet : (P : Due → Type 0) → ((layer last : ℕ) → P (Node layer last)) → ((left : ℕ) → P (Coordinates left)) → (d : Due) → is_quiet d ≡ true → P d
by_quiet P node coordinates = by
  where
    by : (d : Due) → is_quiet d ≡ true → P d
    by (Mesh last) q = absurd (false≢true q)
    by (Layer last) q = absurd (false≢true q)
    by (Node layer last) q = node layer last
    by (Line layer last letters) q = absurd (false≢true q)
    by (Coordinates left) q = coordinates left
    by (Area layer last) q = absurd (false≢true q)
    by (Loop last count left) q = absurd (false≢true q)

-- they are quiet
pub quiet_is : (s : State) (j : ℕ) → is_quiet (quiet_due s j) ≡ true
quiet_is s j = by (ltb 0 s.line.points)
  where
    by : (b : Bool) → is_quiet (cond b (Coordinates (s.line.points - 7 * j)) (Node s.layer.code (s.layer.node + j))) ≡ true
    by true = refl
    by false = refl

-- ---- which are quiet

-- the coordinate records of the points that are left
pub quiet_points : (s : State) (h : ℕ) → 0 < s.line.points → h ≤ (s.line.points - 1) / 7 + 1 → Quiet s h
unfolding due_of
quiet_points s h p l = record { quiet = λ j m. simp (lt-ltb 0 s.line.points p, lt-ltb 0 (s.line.points - 7 * j) (omega arith)) }

-- the nodes that are left, where nothing comes before them
pub quiet_nodes : (s : State) (h : ℕ) → s.line.points ≤ 0 → s.area.entries ≤ 0
    → s.area.loops ≤ s.area.begun → h ≤ s.layer.nodes - s.layer.node → Quiet s h
unfolding due_of
quiet_nodes s h p e b l = record {
  quiet = λ j m. simp (
    le-ltb 0 s.line.points p,
    le-ltb 0 (s.line.points - 7 * j) (omega arith),
    le-ltb 0 s.area.entries e,
    le-ltb s.area.begun s.area.loops b,
    lt-ltb (s.layer.node + j) s.layer.nodes (omega arith),
  );
}

-- all that the state tells of, and no more
ahead_by : (s : State) (h : ℕ) (p e b : Bool) → ltb 0 s.line.points ≡ p → ltb 0 s.area.entries ≡ e → ltb s.area.begun s.area.loops ≡ b
    → h ≤ cond p ((s.line.points - 1) / 7 + 1) (cond (e || b) 0 (s.layer.nodes - s.layer.node)) → Quiet s h
ahead_by s h true e b x y z l = quiet_points s h (ltb-true _ _ x) l
ahead_by s h false true b x y z l = record { quiet = λ j m. absurd (omega arith) }
ahead_by s h false false true x y z l = record { quiet = λ j m. absurd (omega arith) }
ahead_by s h false false false x y z l = quiet_nodes s h (ltb-false _ _ x) (ltb-false _ _ y) (ltb-false _ _ z) l

pub ahead_quiet : (s : State) (h : ℕ) → h ≤ quiet_ahead s → Quiet s h
unfolding quiet_ahead
ahead_quiet s h l = ahead_by s h (ltb 0 s.line.points) (ltb 0 s.area.entries) (ltb s.area.begun s.area.loops) refl refl refl l

-- what is due is coordinates, or a node
abbrev is_points : Due → Bool
is_points (Mesh last) = false
is_points (Layer last) = false
is_points (Node layer last) = false
is_points (Line layer last letters) = false
is_points (Coordinates left) = true
is_points (Area layer last) = false
is_points (Loop last count left) = false

abbrev is_node : Due → Bool
is_node (Mesh last) = false
is_node (Layer last) = false
is_node (Node layer last) = true
is_node (Line layer last letters) = false
is_node (Coordinates left) = false
is_node (Area layer last) = false
is_node (Loop last count left) = false

-- then points are left, or nodes
points_left : (s : State) → is_points (due_of s) ≡ true → 0 < s.line.points
points_left s =
    by_due (λ d. is_points d ≡ true → 0 < s.line.points) s (λ l _. l) (λ _. other)
    (λ _. other) (λ _. other) (λ _. other) (λ _ _. other) (λ _. other) (λ _. other)
  where
    other : false ≡ true → 0 < s.line.points
    other e = absurd (false≢true e)

nodes_left : (s : State) → is_node (due_of s) ≡ true → s.layer.node < s.layer.nodes
nodes_left s =
    by_due (λ d. is_node d ≡ true → s.layer.node < s.layer.nodes) s (λ _. other)
    (λ _. other) (λ _. other) (λ l _. l) (λ _. other) (λ _ _. other) (λ _. other) (λ _. other)
  where
    other : false ≡ true → s.layer.node < s.layer.nodes
    other e = absurd (false≢true e)

-- and no entry or loop before the nodes
no_loop : (s : State) (e b : Bool) → ltb 0 s.area.entries ≡ e
    → ltb s.area.begun s.area.loops ≡ b → e || b ≡ true → s.line.points ≤ 0 → is_node (due_of s) ≡ false
unfolding due_of
no_loop s true b x y o p = simp (le-ltb 0 s.line.points p, x)
no_loop s false true x y o p = simp (le-ltb 0 s.line.points p, x, y)
no_loop s false false x y o p = absurd (false≢true o)

-- so behind them something else is due
whole_by : (s : State) (h : ℕ) (p o : Bool) → ltb 0 s.line.points ≡ p → ltb 0 s.area.entries || ltb s.area.begun s.area.loops ≡ o
    → h ≡ cond p ((s.line.points - 1) / 7 + 1) (cond o 0 (s.layer.nodes - s.layer.node)) → due_of (passed s h) ≡ quiet_due s h → ⊥
whole_by s h true o p q e d =
    let l = points_left (passed s h) (ap is_points d ∙ rw p) in
    omega (arith, ltb-true 0 s.line.points p)
whole_by s h false true p q e d =
    let l = ltb-false 0 s.line.points p in
    false≢true (sym (no_loop (passed s h) (ltb 0 s.area.entries) (ltb s.area.begun s.area.loops) refl refl q (omega arith)) ∙ ap is_node d ∙ rw p)
whole_by s h false false p q e d =
    let l : s.layer.node + h < s.layer.nodes = rw p at (nodes_left (passed s h) (ap is_node d ∙ rw p)) in
    omega arith

pub quiet_ahead_lem : (s : State) (h : ℕ) → Quiet s h → h ≤ quiet_ahead s
unfolding quiet_ahead
quiet_ahead_lem s h q = by (leb h (quiet_ahead s)) refl
  where
    by : (b : Bool) → leb h (quiet_ahead s) ≡ b → h ≤ quiet_ahead s
    by true l = leb-true _ _ l
    by false l =
        absurd (whole_by s (quiet_ahead s) (ltb 0 s.line.points)
        (ltb 0 s.area.entries || ltb s.area.begun s.area.loops) refl refl refl (q.quiet (quiet_ahead s) (leb-false _ _ l)))

-- as code has it: the number r of those that were passed
module _ (s : State) (most : ℕ) {r : ℕ} (e : r ≡ min most (quiet_ahead s)) where
  pub pass_most : r ≤ most
  pass_most = rw e (min-le_left most (quiet_ahead s))

  pub pass_are_quiet : Quiet s r
  pass_are_quiet = ahead_quiet s r (rw e (min-le_right most (quiet_ahead s)))

-- ---- all of them

-- h quiet records behind the first k of a file
module _ (file : List ℕ) (k : ℕ) {h : ℕ} {s : State} (e : s ≡ state_at file k) (q : Quiet s h) where
  -- the state behind j of them
  pub passed_state : (j : ℕ) → j ≤ h → passed s j ≡ state_at file (k + j)
  unfolding state_at
  passed_state zero l = passed_none s ∙ (rw add-zero e)
  passed_state (suc j) l =
      rw add-suc (sym (passed_one s j (record_of file (suc (k + j))) (q.quiet j (omega arith)))
      ∙ ap (λ (u : State). next_of u (record_of file (suc (k + j)))) (passed_state j (omega arith)))

  -- what comes behind j of them
  pub passed_due : (j : ℕ) → j < h → due_of (state_at file (k + j)) ≡ quiet_due s j
  passed_due j l = ap due_of (sym (passed_state j (omega arith))) ∙ q.quiet j l

  -- the counts behind j of them
  pub passed_counts : (j : ℕ) {c : Counts} → j ≤ h → c ≡ counts_at file k → counted_past c s j ≡ counts_at file (k + j)
  unfolding counts_at
  passed_counts zero {c} l f = counted_none c s ∙ (rw add-zero f)
  passed_counts (suc j) {c} l f = rw add-suc (
      sym (counted_by c s j (record_of file (suc (k + j))) (ltb 0 s.line.points) refl)
      ∙ ap (λ (d : Due). counted_for d (counted_past c s j) (record_of file (suc (k + j)))) (sym (passed_due j (omega arith)))
      ∙ ap (λ (x : Counts). counted_for (due_of (state_at file (k + j))) x (record_of file (suc (k + j)))) (passed_counts j (omega arith) f))

  -- they keep the rules g, which ask nothing of a quiet record
  pub passed_rows : (g : ℕ → List Rule) → ((i : ℕ) → is_quiet (due_of (state_at file i)) ≡ true → first_broken (g i) ≡ Fine)
      → first_broken (rows k g) ≡ Fine → first_broken (rows (k + h) g) ≡ Fine
  passed_rows g t f = rows_past g k h f (λ j l. t (k + j) (rw (passed_due j l) (quiet_is s j)))

  -- the words that g takes from them are none, where it takes none from a quiet record
  pub passed_words : (g : Due → List ℕ → ℕ → List ℕ) → ((d : Due) (t : List ℕ) (r : ℕ) → is_quiet d ≡ true → g d t r ≡ [])
      → (j : ℕ) → j ≤ h → gather g file (k + j) ≡ gather g file k
  unfolding gather
  passed_words g t zero l = rw add-zero
  passed_words g t (suc j) l =
      let n = t (due_of (state_at file (k + j))) (record_of file (suc (k + j))) (suc (k + j)) (rw (passed_due j (omega arith)) (quiet_is s j)) in
      rw (add-suc, n, append-nil) (passed_words g t j (omega arith))

-- ---- fine at a glance

-- the r records behind the first k are the next ones of a line with so many points left, and keep the rules of stage 2
pub record Fit (file : List ℕ) (points k r : ℕ) : Type 0 where
  pub left : 0 < r → 0 < points
  pub fine : (j : ℕ) → j < r → first_broken (block 2 (k + j + 1) (checks_of (Coordinates (points - 7 * j)) (record_of file (k + j + 1)))) ≡ Fine

module _ (file : List ℕ) (points k r : ℕ) (l : 0 < points) (t : first_broken (block 2 (k + 1) (checks_of (Coordinates points) (record_of file (k + 1)))) ≡ Fine)
    (f : Fit file (points - 7) (k + 1) r) where
  fit_at : (j : ℕ) → j < suc r → first_broken (block 2 (k + j + 1) (checks_of (Coordinates (points - 7 * j)) (record_of file (k + j + 1)))) ≡ Fine
  fit_at zero q =
      let z : k + 0 + 1 ≡ k + 1 = omega arith in
      let p : points - 7 * 0 ≡ points = omega arith in
      rw (z, p) t
  fit_at (suc j) q =
      let z : k + suc j + 1 ≡ k + 1 + j + 1 = omega arith in
      let p : points - 7 * suc j ≡ points - 7 - 7 * j = omega arith in
      rw (z, p) (f.fine j (omega arith))

  fit_more : Fit file points k (suc r)
  fit_more = record { left = λ q. l; fine = fit_at }

fit_by : (file : List ℕ) (points k r : ℕ) → Fit file (points - 7) (k + 1) r → (p t : Bool) → ltb 0 points ≡ p → is_fine_at file points (k + 1) ≡ t
    → Fit file points k (cond (p && t) (suc r) 0)
fit_by file points k r f true true p t = fit_more file points k r (ltb-true _ _ p) (fine_is _ (sym t) refl) f
fit_by file points k r f true false p t = record { left = λ q. absurd (omega arith); fine = λ j q. absurd (omega arith) }
fit_by file points k r f false t p q = record { left = λ q. absurd (omega arith); fine = λ j q. absurd (omega arith) }

ahead_fit : (file : List ℕ) (points k m : ℕ) → Fit file points k (fine_ahead file points k m)
unfolding fine_ahead
ahead_fit file points k zero = record { left = λ q. absurd (omega arith); fine = λ j q. absurd (omega arith) }
ahead_fit file points k (suc m) =
    fit_by file points k (fine_ahead file (points - 7) (k + 1) m) (ahead_fit file (points - 7) (k + 1) m) (ltb 0 points) (is_fine_at file points (k + 1)) refl refl

-- no more than there are
most_by : (b : Bool) (r m : ℕ) → r ≤ m → cond b (suc r) 0 ≤ suc m
most_by true r m l = omega arith
most_by false r m l = omega arith

ahead_most : (file : List ℕ) (points k m : ℕ) → fine_ahead file points k m ≤ m
unfolding fine_ahead
ahead_most file points k zero = omega arith
ahead_most file points k (suc m) =
    most_by (ltb 0 points && is_fine_at file points (k + 1)) (fine_ahead file (points - 7) (k + 1) m) m (ahead_most file (points - 7) (k + 1) m)

-- as code has it: the number r of those that were found
module _ (file : List ℕ) (points k m : ℕ) {r : ℕ} (e : r ≡ fine_ahead file points k m) where
  pub found_most : r ≤ m
  found_most = rw e (ahead_most file points k m)

  pub found_fit : Fit file points k r
  found_fit = rw e (ahead_fit file points k m)

-- behind the first k of n, with the answer t to the next record
module _ (file : List ℕ) (points k n : ℕ) where
  module _ (i : k < n) (l : 0 < points) {u : List ℕ} {t : Bool} (e : u ≡ record_of file (k + 1))
      (h : t ≡ is_fine (first_broken (block 2 (k + 1) (checks_of (Coordinates points) u)))) where
    ahead_is : fine_ahead file points k (n - k) ≡ cond t (suc (fine_ahead file (points - 7) (k + 1) (n - (k + 1)))) 0
    unfolding fine_ahead
    ahead_is =
        let z : n - k ≡ suc (n - (k + 1)) = omega arith in
        rw (z, lt-ltb _ _ l, ← e, ← h)

    pub ahead_next : t ≡ true → fine_ahead file points k (n - k) ≡ suc (fine_ahead file (points - 7) (k + 1) (n - (k + 1)))
    ahead_next q = rw q at ahead_is

    pub ahead_stops : t ≡ false → fine_ahead file points k (n - k) ≡ 0
    ahead_stops q = rw q at ahead_is

-- none are where no point of the line is left
pub none_ahead : (file : List ℕ) (k m : ℕ) {points : ℕ} → points ≡ 0 → fine_ahead file points k m ≡ 0
unfolding fine_ahead
none_ahead file k zero e = refl
none_ahead file k (suc m) e = rw e

-- the rules of stage 2, over records that were found fine
pub fine_rows : (file : List ℕ) (k : ℕ) {h m : ℕ} {s : State} → s ≡ state_at file k → Quiet s h → Fit file s.line.points k m → h ≤ m
    → first_broken (rows k (stage_two_rules file)) ≡ Fine → first_broken (rows (k + h) (stage_two_rules file)) ≡ Fine
fine_rows file k {h} {m} {s} e q f l r =
    rows_past (stage_two_rules file) k h r (λ j i. rw (passed_due file k e q j i, lt-ltb 0 s.line.points (f.left (omega arith))) (f.fine j (omega arith)))
