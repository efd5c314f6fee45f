-- Line measures that are kept: what the code reads of a list is small whatever stands in it, and of a layer whose lines are well formed and
-- all kept it is each line's measure. Assumes nothing.
use mathlib.Core.Bool.{Bool, true, false, cond}
use mathlib.Core.List.{List}
use mathlib.Core.Path.{◌≡◌, refl, sym, ◌∙◌, ap}
use Prim.Native.Nat.{ℕ, ◌+◌, ◌-◌, ◌^◌, ◌≤◌, ◌<◌, min}
use native.Mathlib.Nat.{zero-add, min-eq_left}
use native.Mathlib.Omega.{arith}
use lib.Dec.{leb}
use lib.IntN.{ℤ, pos, nat_abs}
use lib.ListN.{length, take, set, get_or}
use lib.Seq.{sets}
use lib.Signed.{mag}
use mir.Facts.{to_z-of_z}
use mir.Syntax.{w64}
use mir.Val.{to_z, of_z, hbits}
use borrow.Author.Tests.{le-leb, leb-true}
use Rattle.permitted.specs.Permitted.{size}
use Rattle.layers.specs.declared.Layer.{Layer}
use Rattle.layers.specs.Naming.{names_line, line_of}
use Rattle.layers.proofs.Answers.{line_size}
use Rattle.measures.specs.Points.{coordinate_in, measure_by, measure_in}
use Rattle.measures.specs.Sound.{added_up}
use Rattle.measures.specs.Walks.{Small}
use Rattle.measures.specs.Measures.{Entry, loop_measure, entry_measure, plus, minus}
use Rattle.measures.proofs.Bounds.{read_back}
use Rattle.measures.proofs.FirstLaws.{first_at, first_stored, first_front}
use Rattle.measures.proofs.Sounding.{sound_measure, sound_small}
use Rattle.measures.proofs.SumLaws.{sum_ext}
use Rattle.measures.proofs.Walking.{measure_none}
use Rattle.records.proofs.Numbers.{record_none}
use Rattle.entries.specs.Loops.{measure_of, loop_measure_in}
use Rattle.entries.specs.Entries.{loop_at}
use Rattle.entries.specs.Keeping.{walked_to, possible_of, kept_measure, kept_loop, Kept, SoundLayer}

-- how large a line's measure can be, either way
abbrev pub most : ℕ
most = 200000000000000

-- ---- a measure that is possible

pub possible_same : {z : ℤ} → Small most z → possible_of z ≡ z
unfolding possible_of
possible_same {z} s = rw (le-leb (nat_abs z) most s.small)

pub possible_small : (z : ℤ) → Small most (possible_of z)
unfolding possible_of
possible_small z = by (leb (nat_abs z) most) refl
  where
    by : (t : Bool) → leb (nat_abs z) most ≡ t → Small most (cond t z (pos 0))
    by true e = record { small = leb-true (nat_abs z) most e }
    by false e = record { small = omega arith }

-- ---- what a list says of a line

module _ (l : Layer) (ms : List ℤ) where
  pub kept_unnamed : (n : ℕ) → names_line l.lines (pos n) ≡ false → kept_measure l ms n ≡ pos 0
  unfolding kept_measure
  kept_unnamed n h = rw h

  pub kept_named : (n : ℕ) → names_line l.lines (pos n) ≡ true → kept_measure l ms n ≡ possible_of (get_or ms (n - 1) (pos 0))
  unfolding kept_measure
  kept_named n h = rw h

  -- no entry
  pub kept_none : kept_measure l ms 0 ≡ pos 0
  unfolding kept_measure names_line
  kept_none = refl

  -- it is small, whatever the list has
  pub kept_small : (n : ℕ) → Small most (kept_measure l ms n)
  kept_small n = by (names_line l.lines (pos n)) refl
    where
      by : (t : Bool) → names_line l.lines (pos n) ≡ t → Small most (kept_measure l ms n)
      by true e = rw (kept_named n e) (possible_small (get_or ms (n - 1) (pos 0)))
      by false e = rw (kept_unnamed n e) (record { small = omega arith })

  -- an entry's sign does not say which line is meant
  named_size : (v : ℤ) {b : Bool} → names_line l.lines v ≡ b → names_line l.lines (pos (size v)) ≡ b
  unfolding names_line
  named_size v h = h

  -- as the code reads it of the line that v names
  pub unnamed_told : (v : ℤ) → names_line l.lines v ≡ false → pos 0 ≡ kept_measure l ms (size v)
  unnamed_told v h = sym (kept_unnamed (size v) (named_size v h))

  pub kept_told : (v : ℤ) {i : ℕ} {x r : ℤ} → names_line l.lines v ≡ true → i ≡ size v - 1 → x ≡ get_or ms i (pos 0) → mag x < 2 ^ hbits w64
      → r ≡ possible_of (to_z w64 (of_z w64 x)) → to_z w64 (of_z w64 r) ≡ kept_measure l ms (size v)
  kept_told v {i} {x} {r} n q k g p =
      let b = to_z-of_z {w = w64} {z = x} (record { sfits = g }) in
      let e : r ≡ possible_of (get_or ms i (pos 0)) = p ∙ rw (b, k) in
      rw (e, read_back w64 (possible_small (get_or ms i (pos 0))) tt, q) (sym (kept_named (size v) (named_size v n)))

-- ---- the measure of a line

-- record 0 is none
measure_zero : (file : List ℕ) → measure_in file 0 ≡ pos 0
measure_zero file = measure_none coordinate_in file 0 (record_none file 0 refl)

module _ (file t : List ℕ) (l : Layer) where
  pub measure_unnamed : (n : ℕ) → names_line l.lines (pos n) ≡ false → measure_of file t l n ≡ pos 0
  unfolding measure_of line_of
  measure_unnamed n h = rw h (measure_zero file)

  pub measure_named : (n : ℕ) → names_line l.lines (pos n) ≡ true → measure_of file t l n ≡ measure_in file (get_or t (l.line + (n - 1)) 0)
  unfolding measure_of line_of
  measure_named n h = rw h

  -- a line of a layer whose lines are well formed measures little
  pub measure_small : SoundLayer file t l → (n : ℕ) → Small most (measure_of file t l n)
  measure_small s n = by (names_line l.lines (pos n)) refl
    where
      by : (b : Bool) → names_line l.lines (pos n) ≡ b → Small most (measure_of file t l n)
      by true e = rw (measure_named n e) (sound_small file _ (s.sound (n - 1) (omega (arith, line_size l.lines (pos n) e))))
      by false e = rw (measure_unnamed n e) (record { small = omega arith })

  -- ---- measures kept

  -- the next line's measure z stored
  pub walked_stored : (ms : List ℤ) (i : ℕ) {ks : List ℤ} {z : ℤ} → ks ≡ sets ms 0 (walked_to file t l i) → z ≡ measure_by added_up file (get_or t (l.line + i) 0)
      → set ks i z ≡ sets ms 0 (walked_to file t l (i + 1))
  unfolding walked_to
  walked_stored ms i e p =
      let s = first_stored (λ (i : ℕ). measure_by added_up file (get_or t (l.line + i) 0)) ms 0 i in
      rw (e, p) (rw (zero-add i) at s)

  -- all lines of the layer, where they are well formed
  walked_kept : SoundLayer file t l → Kept file t l (walked_to file t l l.lines)
  unfolding walked_to
  walked_kept s = record { kept = λ n. by n (names_line l.lines (pos n)) refl }
    where
      at : (i : ℕ) → i < l.lines → possible_of (get_or (walked_to file t l l.lines) i (pos 0)) ≡ measure_in file (get_or t (l.line + i) 0)
      at i h =
          let g = s.sound i h in
          rw (first_at (λ (i : ℕ). measure_by added_up file (get_or t (l.line + i) 0)) (pos 0) l.lines i h, sound_measure file _ g)
          (possible_same (sound_small file _ g))

      by : (n : ℕ) (b : Bool) → names_line l.lines (pos n) ≡ b → kept_measure l (walked_to file t l l.lines) n ≡ measure_of file t l n
      by n true e =
          kept_named l _ n e ∙ at (n - 1) (omega (arith, line_size l.lines (pos n) e)) ∙ sym (measure_named n e)
      by n false e = kept_unnamed l _ n e ∙ sym (measure_unnamed n e)

  -- the first n are the list then
  pub walked_front : (ms : List ℤ) {n : ℕ} {ks : List ℤ} → ks ≡ sets ms 0 (walked_to file t l n) → n ≤ length ms → take n ks ≡ walked_to file t l n
  unfolding walked_to
  walked_front ms {n} e h = rw (e, first_front (λ (i : ℕ). measure_by added_up file (get_or t (l.line + i) 0)) ms n h)

  -- A LAYER'S LINES ARE KEPT by the list ks that `LineMeasures::keep` leaves: there is room for all that a layer can have
  pub kept_all : {ks : List ℤ} → ks ≡ walked_to file t l (min l.lines 9999) → SoundLayer file t l → Kept file t l ks
  kept_all e s = rw (e, min-eq_left s.few) (walked_kept s)

  -- the answer r of `keep_measures` to the list ms, and the list ks that it leaves
  module _ (ms : List ℤ) {r : ℕ} {ks : List ℤ} (h : (r ≡ min l.lines (length ms)) × (ks ≡ sets ms 0 (walked_to file t l r))) where
    -- WITH ROOM FOR ALL LINES THAT A LAYER CAN HAVE, they are kept: what stands in front is the list that `keep` leaves
    pub kept_lines : 9999 ≤ length ms → SoundLayer file t l → Kept file t l (take r ks)
    kept_lines q s =
        let e : r ≡ l.lines = h.0 ∙ min-eq_left (omega (arith, q, s.few)) in
        kept_all (walked_front ms h.1 (omega (arith, q, s.few)) ∙ ap (walked_to file t l) (e ∙ sym (min-eq_left s.few))) s

  -- by the list every loop has its measure
  entry_kept : (ms : List ℤ) → Kept file t l ms → (e : Entry) → entry_measure (kept_measure l ms) e ≡ entry_measure (measure_of file t l) e
  entry_kept ms k (plus n) = k.kept n
  entry_kept ms k (minus n) = rw (k.kept n)

  pub entries_kept : (ms : List ℤ) → Kept file t l ms → (es : List Entry) → loop_measure (kept_measure l ms) es ≡ loop_measure (measure_of file t l) es
  unfolding loop_measure
  entries_kept ms k es = sum_ext _ _ (entry_kept ms k) es

  pub loop_kept : (ms : List ℤ) → Kept file t l ms → (f : ℕ) → kept_loop file l ms f ≡ loop_measure_in file t l f
  unfolding kept_loop loop_measure_in
  loop_kept ms k f = entries_kept ms k (loop_at file f)
