-- The checks of lines, of their points and of loop records, by the ways out of the code that judges them. Assumes nothing.
use mathlib.Core.Bool.{Bool, true, false, ◌||◌, not}
use mathlib.Core.List.{List, [], ◌∷◌}
use mathlib.Core.Path.{◌≡◌, refl, sym, ◌∙◌, ap}
use Prim.Native.Nat.{ℕ, ◌+◌, ◌-◌, ◌≤◌, ◌<◌, ◌^◌}
use native.Mathlib.Omega.{arith}
use lib.Dec.{eqb, lit≤}
use lib.IntN.{ℤ}
use lib.Signed.{mag}
use mir.Syntax.{w32}
use mir.Val.{to_z, of_z, hbits}
use borrow.Author.Tests.{lt-ltb, le-ltb, le-leb, lt-leb, eq-eqb, ne_eqb}
use Rattle.records.specs.Columns.{Row, row_span_of, slot_start, Span, span_of, number_on, value_at, code_on, slot_column, slot_at}
use Rattle.records.specs.Columns as column
use Rattle.records.proofs.Named.{start_there}
use Rattle.records.proofs.Codes.{code_on_lem}
use Rattle.verdict.specs.Rules.{Verdict, Fine, Broken, Check, check, first_broken, block, rows}
use Rattle.verdict.proofs.Parts.{part_passes, rows_none, rows_pass, check_none, check_kept, check_broken}
use Rattle.permitted.specs.Permitted.{size, is_zero}
use Rattle.layers.specs.declared.Layer.{Layer}
use Rattle.layers.specs.Naming.{names, names_line, node_of, area_of}
use Rattle.links.specs.Links.{equal, serial_in, listed, link_fits, line_end_checks, side_checks, at_node}
use Rattle.links.specs.Links.{first_point_checks, last_point_checks, point_checks, loop_entry, entry_checks, fifth}
use Rattle.links.proofs.Numbers.{asked, told_both, compared}
use Rattle.links.proofs.Scans.{slot_first, slot_rules, slots_stop, slots_done}

-- ---- answers

-- the i32 z fits, as a call's answer does
abbrev pub InWord : ℤ → Type 0
InWord z = mag z < 2 ^ hbits w32

-- z as the next call gets it
abbrev pub handed_on : ℤ → ℤ
handed_on z = to_z w32 (of_z w32 z)

-- the answer b of a call of g on z, which is x
answer_is : {A : Type 0} (g : ℤ → A) {z x : ℤ} {b : A} → InWord z → z ≡ x → b ≡ g (handed_on z) → g x ≡ b
answer_is g h e q = asked g h e q refl

-- ---- one check in front of others, and parts in a row

waits : (a b : Bool) {t : Bool} → a ≡ true → b ≡ t → (not a || b) ≡ t
waits a b p q = rw (p, q)

or_left : (a b : Bool) → a ≡ true → (a || b) ≡ true
or_left a b p = rw p

or_right : (a b : Bool) → b ≡ true → (a || b) ≡ true
or_right true b q = refl
or_right false b q = q

or_none : (a b : Bool) → a ≡ false → b ≡ false → (a || b) ≡ false
or_none a b p q = rw (p, q)

module _ (row c n : ℕ) (b : Bool) (cs : List Check) where
  kept : {v : Verdict} → b ≡ true → v ≡ first_broken (block fifth row cs) → v ≡ first_broken (block fifth row (check c n b ∷ cs))
  kept h q = q ∙ sym (check_kept fifth row c n b cs h)

  broke : {v : Verdict} → b ≡ false → v ≡ Broken n row c → v ≡ first_broken (block fifth row (check c n b ∷ cs))
  broke h q = q ∙ sym (check_broken fifth row c n b cs h)

-- ---- a refusal of a slot

-- it stands where the slot of the row r starts
pub slot_told : (r : Row) {number row i : ℕ} {x : Verdict} → i < (row_span_of r).count
    → x ≡ Broken number row (slot_start (row_span_of r).start (row_span_of r).step (row_span_of r).count i) → x ≡ Broken number row (slot_column r i)
slot_told r {number} {row} {i} h e = e ∙ ap (Broken number row) (start_there (row_span_of r).start (row_span_of r).step (row_span_of r).count i h)

-- ---- one end of a line

-- z is its node number, and a says whether it names a node
module _ (file : List ℕ) (l : Layer) (r : ℕ) (c k : Span) (back : Bool) (row : ℕ) {z : ℤ} (ok : InWord z) (e : z ≡ number_on file r c) where
  module _ {a : Bool} (n : a ≡ names l.nodes (handed_on z)) where
    named : a ≡ true → names l.nodes (number_on file r c) ≡ true
    named t = answer_is (names l.nodes) ok e n ∙ t

    pub end_unnamed : {x : Verdict} → a ≡ false → x ≡ Broken 11 row c.start → x ≡ first_broken (block fifth row (line_end_checks file l r c k back))
    unfolding line_end_checks
    end_unnamed t v = broke _ _ _ _ _ (answer_is (names l.nodes) ok e n ∙ t) v

  -- m is the node's record, s the line's serial, and b says whether the node lists it
  module _ {m s : ℕ} {b : Bool} (f : m ≡ node_of l (handed_on z)) (g : s ≡ serial_in file r column.line_serial) (q : b ≡ listed file m back s) where
    lists : listed file (node_of l (number_on file r c)) back (serial_in file r column.line_serial) ≡ b
    lists = rw (answer_is (node_of l) ok e f, ← g) (sym q)

    pub end_unlisted : {x : Verdict} {a : Bool} → a ≡ names l.nodes (handed_on z) → a ≡ true → b ≡ false → x ≡ Broken 14 row c.start
        → x ≡ first_broken (block fifth row (line_end_checks file l r c k back))
    unfolding line_end_checks
    end_unlisted n t u v = kept _ _ _ _ _ (named n t) (broke _ _ _ _ _ (waits _ _ (named n t) (lists ∙ u)) v)

  -- y is its link, w the node's frame, and d says whether they fit
  module _ {m : ℕ} {y w : ℤ} {d : Bool} (f : m ≡ node_of l (handed_on z)) (oky : InWord y) (ey : y ≡ number_on file r k)
      (okw : InWord w) (ew : w ≡ value_at file m column.node_frame) (p : d ≡ link_fits (handed_on y) (handed_on w)) where
    fits : link_fits (number_on file r k) (value_at file (node_of l (number_on file r c)) column.node_frame) ≡ d
    fits = told_both link_fits oky ey okw (ew ∙ ap (λ m. value_at file m column.node_frame) (sym (answer_is (node_of l) ok e f))) p

    module _ {a b : Bool} {s : ℕ} (n : a ≡ names l.nodes (handed_on z)) (t : a ≡ true)
        (g : s ≡ serial_in file r column.line_serial) (q : b ≡ listed file m back s) (u : b ≡ true) where
      pub end_unfit : {x : Verdict} → d ≡ false → x ≡ Broken 12 row k.start → x ≡ first_broken (block fifth row (line_end_checks file l r c k back))
      unfolding line_end_checks
      end_unfit h v =
          kept _ _ _ _ _ (named n t)
          (kept _ _ _ _ _ (waits _ _ (named n t) (lists f g q ∙ u)) (broke _ _ _ _ _ (waits _ _ (named n t) (fits ∙ h)) v))

      pub end_fine : d ≡ true → Fine ≡ first_broken (block fifth row (line_end_checks file l r c k back))
      unfolding line_end_checks
      end_fine h =
          kept _ _ _ _ _ (named n t)
          (kept _ _ _ _ _ (waits _ _ (named n t) (lists f g q ∙ u))
          (kept _ _ _ _ _ (waits _ _ (named n t) (fits ∙ h)) (check_none fifth row)))

pub ruleset end_laws = (end_unnamed, end_unlisted, end_unfit, end_fine)

-- ---- one side of a line

-- z is its area number, and b says whether it names an area
module _ (file t : List ℕ) (l : Layer) (r : ℕ) (c a : Span) (row : ℕ) {z : ℤ} {b : Bool}
    (ok : InWord z) (e : z ≡ number_on file r a) (n : b ≡ names l.areas (handed_on z)) where
  unnamed : b ≡ false
      → (not (names l.areas (number_on file r a)) || equal (code_on file r c) (code_on file (area_of t l (number_on file r a)) (span_of column.area_code))) ≡ true
  unnamed h = rw (answer_is (names l.areas) ok e n ∙ h)

  area : b ≡ true → names l.areas (number_on file r a) ≡ true
  area h = answer_is (names l.areas) ok e n ∙ h

  -- it names none: d says whether it is 0
  module _ {d : Bool} (h : b ≡ false) (q : d ≡ is_zero (handed_on z)) where
    pub side_none : d ≡ true → Fine ≡ first_broken (block fifth row (side_checks file t l r c a))
    unfolding side_checks
    side_none u = kept _ _ _ _ _ (unnamed h) (kept _ _ _ _ _ (or_left _ _ (answer_is is_zero ok e q ∙ u)) (check_none fifth row))

    pub side_unnamed : {x : Verdict} → d ≡ false → x ≡ Broken 11 row a.start → x ≡ first_broken (block fifth row (side_checks file t l r c a))
    unfolding side_checks
    side_unnamed u v =
        kept _ _ _ _ _ (unnamed h) (broke _ _ _ _ _ (or_none _ _ (answer_is is_zero ok e q ∙ u) (answer_is (names l.areas) ok e n ∙ h)) v)

  -- m is the area's record, y the line's code, w the area's
  module _ {m : ℕ} {y w : ℤ} (f : m ≡ area_of t l (handed_on z)) (oky : InWord y) (ey : y ≡ number_on file r c)
      (okw : InWord w) (ew : w ≡ value_at file m column.area_code) where
    alike : equal (code_on file r c) (code_on file (area_of t l (number_on file r a)) (span_of column.area_code)) ≡ eqb (of_z w32 y) (of_z w32 w)
    alike =
        rw (code_on_lem file r c, code_on_lem file (area_of t l (number_on file r a)) (span_of column.area_code))
        (sym (compared oky ey okw (ew ∙ ap (λ m. value_at file m column.area_code) (sym (answer_is (area_of t l) ok e f)))))

    pub side_unlike : {x : Verdict} → b ≡ true → (of_z w32 y ≡ of_z w32 w → ⊥) → x ≡ Broken 12 row c.start
        → x ≡ first_broken (block fifth row (side_checks file t l r c a))
    unfolding side_checks
    side_unlike h u v = broke _ _ _ _ _ (waits _ _ (area h) (alike ∙ ne_eqb _ _ u)) v

    pub side_fine : b ≡ true → of_z w32 y ≡ of_z w32 w → Fine ≡ first_broken (block fifth row (side_checks file t l r c a))
    unfolding side_checks
    side_fine h u =
        kept _ _ _ _ _ (waits _ _ (area h) (alike ∙ eq-eqb _ _ u)) (kept _ _ _ _ _ (or_right (is_zero (number_on file r a)) _ (area h)) (check_none fifth row))

pub ruleset side_laws = (side_none, side_unnamed, side_unlike, side_fine)

-- ---- points

module _ (file : List ℕ) (l : Layer) (q r left row : ℕ) where
  -- one point is no first point
  pub first_few : left ≤ 1 → Fine ≡ first_broken (block fifth row (first_point_checks file l q r left))
  unfolding first_point_checks
  first_few h = rw (le-ltb 1 left h) (check_none fifth row)

  -- n is the line's number of points
  module _ {z : ℤ} {n : ℕ} (h : 1 < left) (ok : InWord z) (e : z ≡ value_at file q column.line_points) (s : n ≡ size (handed_on z)) where
    pub first_later : (left ≡ n → ⊥) → Fine ≡ first_broken (block fifth row (first_point_checks file l q r left))
    unfolding first_point_checks
    first_later u = rw (lt-ltb 1 left h, answer_is size ok e s, ne_eqb left n u) (check_none fifth row)

    -- b says whether the first point is at its node
    module _ {w : ℤ} {b : Bool} (u : left ≡ n) (okw : InWord w) (ew : w ≡ value_at file q column.start_node) (a : b ≡ at_node file l (handed_on w) r 0) where
      pub first_broken_lem : {x : Verdict} → b ≡ false → x ≡ Broken 12 row (slot_start 1 10 7 0) → x ≡ first_broken (block fifth row (first_point_checks file l q r left))
      unfolding first_point_checks
      first_broken_lem t v =
          rw (lt-ltb 1 left h, answer_is size ok e s, eq-eqb left n u) (broke _ _ _ _ _ (answer_is (λ v. at_node file l v r 0) okw ew a ∙ t) (slot_told column.points_x (lit≤ tt) v))

      pub first_kept : b ≡ true → Fine ≡ first_broken (block fifth row (first_point_checks file l q r left))
      unfolding first_point_checks
      first_kept t =
          rw (lt-ltb 1 left h, answer_is size ok e s, eq-eqb left n u)
          (kept _ _ _ _ _ (answer_is (λ v. at_node file l v r 0) okw ew a ∙ t) (check_none fifth row))

  -- the last point is not in this record
  pub last_none : left ≡ 0 → Fine ≡ first_broken (block fifth row (last_point_checks file l q r left))
  unfolding last_point_checks
  last_none h = rw (le-ltb 0 left (omega (arith, h))) (check_none fifth row)

  pub last_later : (left ≡ 0 → ⊥) → 7 < left → Fine ≡ first_broken (block fifth row (last_point_checks file l q r left))
  unfolding last_point_checks
  last_later h u = rw (lt-ltb 0 left (omega (arith, u)), lt-leb left 7 u) (check_none fifth row)

  -- it is: b says whether it is at its node
  module _ {w : ℤ} {b : Bool} (h : left ≡ 0 → ⊥) (u : left ≤ 7) (okw : InWord w)
      (ew : w ≡ value_at file q column.end_node) (a : b ≡ at_node file l (handed_on w) r (left - 1)) where
    pub last_broken : {x : Verdict} → b ≡ false → x ≡ Broken 12 row (slot_start 1 10 7 (left - 1))
        → x ≡ first_broken (block fifth row (last_point_checks file l q r left))
    unfolding last_point_checks
    last_broken t v =
        rw (lt-ltb 0 left (omega (arith, h)), le-leb left 7 u) (broke _ _ _ _ _ (answer_is (λ v. at_node file l v r (left - 1)) okw ew a ∙ t) (slot_told column.points_x (omega arith) v))

    pub last_kept : b ≡ true → Fine ≡ first_broken (block fifth row (last_point_checks file l q r left))
    unfolding last_point_checks
    last_kept t =
        rw (lt-ltb 0 left (omega (arith, h)), le-leb left 7 u)
        (kept _ _ _ _ _ (answer_is (λ v. at_node file l v r (left - 1)) okw ew a ∙ t) (check_none fifth row))

  -- neither of them is: more than seven points are left, and fewer than the line's n
  pub points_later : {z : ℤ} {n : ℕ} → 7 < left → left < n → InWord z → z ≡ value_at file q column.line_points
      → n ≡ size (handed_on z) → Fine ≡ first_broken (block fifth row (point_checks file l q r left))
  unfolding point_checks
  points_later h u ok e s = part_passes fifth row _ _ refl (first_later (omega arith) ok e s (λ i. omega arith)) (last_later (λ i. omega arith) h)

pub ruleset first_laws = (first_few, first_later, first_broken_lem, first_kept)

pub ruleset last_laws = (last_none, last_later, last_broken, last_kept)

-- ---- entries of a loop record

abbrev pub entry_slot : List ℕ → Layer → ℕ → ℕ → List Check
entry_slot file l r i = check (slot_column column.loop_entries i) 11 (is_zero (loop_entry file r i) || names_line l.lines (loop_entry file r i)) ∷ []

module _ (file : List ℕ) (l : Layer) (r row : ℕ) where
  pub entries_stop : (i : ℕ) {x : Verdict} → x ≡ Broken 11 row (slot_start 10 5 12 i)
      → (is_zero (loop_entry file r i) || names_line l.lines (loop_entry file r i)) ≡ false → i < 12
      → first_broken (rows i (slot_rules fifth row (entry_slot file l r))) ≡ Fine → x ≡ first_broken (block fifth row (entry_checks file l r))
  unfolding entry_checks
  entries_stop i v t k f = slots_stop fifth row 12 (entry_slot file l r) i v (broke _ _ _ _ _ t (slot_told column.loop_entries k v)) f k

  pub entries_pass : (i : ℕ) → (is_zero (loop_entry file r i) || names_line l.lines (loop_entry file r i)) ≡ true
      → first_broken (rows i (slot_rules fifth row (entry_slot file l r))) ≡ Fine
      → first_broken (rows (i + 1) (slot_rules fifth row (entry_slot file l r))) ≡ Fine
  entries_pass i t f = rows_pass (slot_rules fifth row (entry_slot file l r)) i f (kept _ _ _ _ _ t (check_none fifth row)) refl

  pub entries_done : (i : ℕ) → first_broken (rows i (slot_rules fifth row (entry_slot file l r))) ≡ Fine → i ≤ 12 → 12 ≤ i
      → Fine ≡ first_broken (block fifth row (entry_checks file l r))
  unfolding entry_checks
  entries_done i f k m = slots_done fifth row 12 (entry_slot file l r) i f k m

pub ruleset entry_laws = (rows_none, slot_first, entries_stop, entries_pass, entries_done)
