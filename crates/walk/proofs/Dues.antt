-- What is due, case by case with what its tests showed; and how the counts and the state go together. Assumes nothing.
use mathlib.Core.Bool.{Bool, true, false, cond}
use mathlib.Core.List.{List}
use mathlib.Core.Logic.{⊎_elim}
use mathlib.Core.Path.{◌≡◌, refl, subst}
use Prim.Native.Nat.{ℕ, zero, suc, ◌+◌, ◌*◌, ◌≤◌, ◌<◌}
use native.Mathlib.Nat.{le_refl, le_of_suc-le-suc, eq-or-lt_of_le}
use native.Mathlib.Omega.{arith}
use lib.Dec.{ltb}
use borrow.Author.Tests.{ltb-true, ltb-false}
use Rattle.records.specs.View.{record_of}
use Rattle.rules.specs.declared.Due.{Due}
use Rattle.rules.specs.declared.Due.TheVariants.{Mesh, Layer, Node, Line, Coordinates, Area, Loop}
use Rattle.walk.specs.declared.State.{State}
use Rattle.walk.specs.declared.Counts.{Counts}
use Rattle.walk.specs.Row.{row_length}
use Rattle.walk.specs.States.{due_of, next_for, next_of, state_at, layer_words, counted_for, counts_at}
use Rattle.walk.specs.Stages.{may_end}

pick : {A : Type 0} (P : A → Type 0) (b : Bool) {x y : A} → (b ≡ true → P x) → (b ≡ false → P y) → P (cond b x y)
pick P true p q = p refl
pick P false p q = q refl

-- no loop of the area, no line and no area of the layer is left
pub record Idle (s : State) : Type 0 where
  pub loops : s.area.loops ≤ s.area.begun
  pub lines : s.layer.lines ≤ s.layer.line
  pub areas : s.layer.areas ≤ s.layer.area

-- a fact of what is due, from each of its cases
pub by_due : (P : Due → Type 0) (s : State)
    → (0 < s.line.points → P (Coordinates s.line.points))
    → (0 < s.area.entries → P (Loop s.area.begun s.area.count s.area.entries))
    → (s.area.begun < s.area.loops → P (Loop s.area.begun s.area.count 0))
    → (s.layer.node < s.layer.nodes → P (Node s.layer.code s.layer.node))
    → (s.layer.line < s.layer.lines → P (Line s.layer.code s.layer.line s.layer.letters))
    → (s.area.loops ≤ s.area.begun → s.layer.area < s.layer.areas → P (Area s.layer.code s.layer.area))
    → (Idle s → P (Layer s.layer.code))
    → (Idle s → P (Mesh s.mesh.code))
    → P (due_of s)
unfolding due_of
by_due P s coordinates further loops node line area layer mesh =
    pick P (ltb 0 s.line.points) (λ t. coordinates (ltb-true _ _ t)) (λ _.
    pick P (ltb 0 s.area.entries) (λ t. further (ltb-true _ _ t)) (λ _.
    pick P (ltb s.area.begun s.area.loops) (λ t. loops (ltb-true _ _ t)) (λ b.
    pick P (ltb s.layer.node s.layer.nodes) (λ t. node (ltb-true _ _ t)) (λ _.
    pick P (ltb s.layer.line s.layer.lines) (λ t. line (ltb-true _ _ t)) (λ l.
    pick P (ltb s.layer.area s.layer.areas) (λ t. area (ltb-false _ _ b) (ltb-true _ _ t)) (λ a.
    let i : Idle s = record { loops = ltb-false _ _ b; lines = ltb-false _ _ l; areas = ltb-false _ _ a } in
    pick P (ltb 0 s.mesh.layers) (λ _. layer i) (λ _. mesh i)))))))

-- ---- counts grow

pub record Grown (c e : Counts) : Type 0 where
  pub layers : c.layers ≤ e.layers
  pub lines : c.lines ≤ e.lines
  pub areas : c.areas ≤ e.areas

grown_self : (c : Counts) → Grown c c
grown_self c = record { layers = le_refl _; lines = le_refl _; areas = le_refl _ }

grown_one : (d : Due) (c : Counts) (t : List ℕ) → Grown c (counted_for d c t)
grown_one (Mesh last) c t = record { layers = le_refl _; lines = le_refl _; areas = le_refl _ }
grown_one (Layer last) c t = record { layers = omega arith; lines = le_refl _; areas = le_refl _ }
grown_one (Node layer last) c t = record { layers = le_refl _; lines = le_refl _; areas = le_refl _ }
grown_one (Line layer last letters) c t = record { layers = le_refl _; lines = omega arith; areas = le_refl _ }
grown_one (Coordinates left) c t = grown_self c
grown_one (Area layer last) c t = record { layers = le_refl _; lines = le_refl _; areas = omega arith }
grown_one (Loop last count left) c t = grown_self c

grown_on : {a b c : Counts} → Grown a b → Grown b c → Grown a c
grown_on p q = record {
  layers = omega (arith, p.layers, q.layers);
  lines = omega (arith, p.lines, q.lines);
  areas = omega (arith, p.areas, q.areas);
}

-- more records, no fewer counts
pub grown : (file : List ℕ) (n k : ℕ) → k ≤ n → Grown (counts_at file k) (counts_at file n)
unfolding counts_at
grown file n zero l = record { layers = omega arith; lines = omega arith; areas = omega arith }
grown file zero (suc k) l = absurd (omega arith)
grown file (suc n) (suc k) l =
    ⊎_elim
    (λ e. subst (λ m. Grown (counts_at file (suc k)) (counts_at file m)) e (grown_self (counts_at file (suc k))))
    (λ m. grown_on (grown file n (suc k) (le_of_suc-le-suc m)) (grown_one (due_of (state_at file n)) (counts_at file n) (record_of file (suc n))))
    (eq-or-lt_of_le l)

-- ---- what was counted and what is left of the layer are what the H records said

pub record Open (c : Counts) (s : State) : Type 0 where
  pub lines : s.layer.line ≤ s.layer.lines
  pub areas : s.layer.area ≤ s.layer.areas
  pub words : c.words + (s.layer.line + s.layer.area) ≡ row_length * c.layers + ((c.lines + s.layer.lines) + (c.areas + s.layer.areas))

open_loop : (a b left : ℕ) (c : Counts) (s : State) (t : List ℕ) → Open c s → Open (counted_for (Loop a b left) c t) (next_for (Loop a b left) s t)
open_loop a b zero c s t o = record { lines = o.lines; areas = o.areas; words = o.words }
open_loop a b (suc left) c s t o = record { lines = o.lines; areas = o.areas; words = o.words }

open_next : (c : Counts) (s : State) (t : List ℕ) → Open c s → Open (counted_for (due_of s) c t) (next_for (due_of s) s t)
unfolding layer_words
open_next c s t o =
    by_due (λ d. Open (counted_for d c t) (next_for d s t)) s
    (λ _. record { lines = o.lines; areas = o.areas; words = o.words })
    (λ _. open_loop s.area.begun s.area.count s.area.entries c s t o)
    (λ _. open_loop s.area.begun s.area.count 0 c s t o)
    (λ _. record { lines = o.lines; areas = o.areas; words = o.words })
    (λ l. record { lines = omega (arith, l); areas = o.areas; words = omega (arith, o.words) })
    (λ _ l. record { lines = o.lines; areas = omega (arith, l); words = omega (arith, o.words) })
    (λ i. record { lines = omega arith; areas = omega arith; words = omega (arith, o.words, o.lines, o.areas, i.lines, i.areas) })
    (λ i. record { lines = omega arith; areas = omega arith; words = omega (arith, o.words, o.lines, o.areas, i.lines, i.areas) })

pub opened : (file : List ℕ) (k : ℕ) → Open (counts_at file k) (state_at file k)
unfolding counts_at state_at next_of
opened file zero = record { lines = omega arith; areas = omega arith; words = refl }
opened file (suc k) = open_next (counts_at file k) (state_at file k) (record_of file (suc k)) (opened file k)

-- where the file may end, none is left
pub idle_end : (s : State) → may_end (due_of s) ≡ true → Idle s
idle_end s =
    by_due (λ d. may_end d ≡ true → Idle s) s
    (λ _ e. no e)
    (λ _ e. no e)
    (λ _ e. no e)
    (λ _ e. no e)
    (λ _ e. no e)
    (λ _ _ e. no e)
    (λ _ e. no e)
    (λ i e. i)
  where
    no : {A : Type 0} → false ≡ true → A
    no e = let z : ◌≡◌ {A = ℕ} 0 1 = cc in absurd (omega arith)

-- where the file may end, the words that its layers need are those of the records that were counted
pub words_counted : (file : List ℕ) (k : ℕ) → may_end (due_of (state_at file k)) ≡ true
    → (counts_at file k).words ≡ row_length * (counts_at file k).layers + ((counts_at file k).lines + (counts_at file k).areas)
words_counted file k e =
    let i = idle_end (state_at file k) e in
    let o = opened file k in
    omega (arith, o.words, o.lines, o.areas, i.lines, i.areas)
