-- The three sections of the table, filled record by record. Assumes nothing.
use mathlib.Core.Bool.{true}
use mathlib.Core.List.{List, [], ◌∷◌, ◌++◌, append_assoc, append-nil}
use mathlib.Core.Path.{◌≡◌, refl, sym, ◌∙◌, ap, subst}
use Prim.Native.Nat.{ℕ, zero, suc, ◌+◌, ◌*◌, ◌-◌, ◌≤◌, ◌<◌}
use native.Mathlib.Nat.{le_refl}
use native.Mathlib.Numerals.{add-one}
use native.Mathlib.Omega.{arith}
use lib.ListN.{length, take, drop, length-append, length-drop, drop_of_length-le, take-append-drop}
use lib.Seq.{sets, length-take-le, drop-drop}
use Rattle.records.specs.View.{record_of}
use Rattle.rules.specs.declared.Due.{Due}
use Rattle.rules.specs.declared.Due.TheVariants.{Mesh, Layer, Node, Line, Coordinates, Area, Loop}
use Rattle.walk.specs.declared.State.{State}
use Rattle.walk.specs.declared.Counts.{Counts}
use Rattle.walk.specs.Row.{row_length}
use Rattle.walk.specs.States.{due_of, state_at, counted_for, counts_at}
use Rattle.walk.specs.Stages.{records_of}
use Rattle.walk.proofs.Dues.{Grown, grown}
use Rattle.walk.specs.declared.Bases.{Bases}
use Rattle.walk.specs.Table.{row_words, line_words, area_words, gather, table_of, filled}
use Rattle.walk.specs.Storing.{record_words, stored_at, many_of, Roomy, Sections}
use Rattle.walk.specs.Quiet.{is_quiet, Quiet}
use Rattle.walk.proofs.Passing.{by_quiet, passed_words}
use Rattle.walk.proofs.Stores.{sets_left, sets_right, more_filled, filled_length}

-- ---- how many words each section has

-- a section has as many words as were counted
pub record Counted (file : List ℕ) (k : ℕ) : Type 0 where
  pub rows : length (gather row_words file k) ≡ row_length * (counts_at file k).layers
  pub lines : length (gather line_words file k) ≡ (counts_at file k).lines
  pub areas : length (gather area_words file k) ≡ (counts_at file k).areas

row_one : (d : Due) (t : List ℕ) (r : ℕ) (c : Counts) → row_length * c.layers + length (row_words d t r) ≡ row_length * (counted_for d c t).layers
row_one (Mesh last) t r c = omega arith
row_one (Layer last) t r c = omega arith
row_one (Node layer last) t r c = omega arith
row_one (Line layer last letters) t r c = omega arith
row_one (Coordinates left) t r c = omega arith
row_one (Area layer last) t r c = omega arith
row_one (Loop last count left) t r c = omega arith

line_one : (d : Due) (t : List ℕ) (r : ℕ) (c : Counts) → c.lines + length (line_words d t r) ≡ (counted_for d c t).lines
line_one (Mesh last) t r c = omega arith
line_one (Layer last) t r c = omega arith
line_one (Node layer last) t r c = omega arith
line_one (Line layer last letters) t r c = omega arith
line_one (Coordinates left) t r c = omega arith
line_one (Area layer last) t r c = omega arith
line_one (Loop last count left) t r c = omega arith

area_one : (d : Due) (t : List ℕ) (r : ℕ) (c : Counts) → c.areas + length (area_words d t r) ≡ (counted_for d c t).areas
area_one (Mesh last) t r c = omega arith
area_one (Layer last) t r c = omega arith
area_one (Node layer last) t r c = omega arith
area_one (Line layer last letters) t r c = omega arith
area_one (Coordinates left) t r c = omega arith
area_one (Area layer last) t r c = omega arith
area_one (Loop last count left) t r c = omega arith

-- a quiet record has no word
row_quiet : (d : Due) (t : List ℕ) (r : ℕ) → is_quiet d ≡ true → row_words d t r ≡ []
row_quiet d t r = by_quiet (λ d. row_words d t r ≡ []) (λ layer last. refl) (λ left. refl) d

line_quiet : (d : Due) (t : List ℕ) (r : ℕ) → is_quiet d ≡ true → line_words d t r ≡ []
line_quiet d t r = by_quiet (λ d. line_words d t r ≡ []) (λ layer last. refl) (λ left. refl) d

area_quiet : (d : Due) (t : List ℕ) (r : ℕ) → is_quiet d ≡ true → area_words d t r ≡ []
area_quiet d t r = by_quiet (λ d. area_words d t r ≡ []) (λ layer last. refl) (λ left. refl) d

pub counted : (file : List ℕ) (k : ℕ) → Counted file k
unfolding gather counts_at
counted file zero = record { rows = refl; lines = refl; areas = refl }
counted file (suc k) =
    let d : Due = due_of (state_at file k) in
    let t : List ℕ = record_of file (suc k) in
    let c : Counts = counts_at file k in
    let h = counted file k in
    record {
      rows = length-append (gather row_words file k) (row_words d t (suc k))
          ∙ ap (λ (n : ℕ). n + length (row_words d t (suc k))) h.rows ∙ row_one d t (suc k) c;
      lines = length-append (gather line_words file k) (line_words d t (suc k))
          ∙ ap (λ (n : ℕ). n + length (line_words d t (suc k))) h.lines ∙ line_one d t (suc k) c;
      areas = length-append (gather area_words file k) (area_words d t (suc k))
          ∙ ap (λ (n : ℕ). n + length (area_words d t (suc k))) h.areas ∙ area_one d t (suc k) c;
    }

-- the table's words: rows, lines and areas
pub table_length : (file : List ℕ)
    → length (table_of file)
    ≡ row_length * (counts_at file (records_of file)).layers + ((counts_at file (records_of file)).lines + (counts_at file (records_of file)).areas)
unfolding table_of
table_length file =
    let h = counted file (records_of file) in
    rw (length-append, length-append, h.rows, h.lines, h.areas)

-- ---- one record more

-- a record that is no H, no L and no A gives none
pub none_stored : (d : Due) (t : List ℕ) (r : ℕ) (c : Counts) (b : Bases) (ws : List ℕ) → ((last : ℕ) → d ≡ Layer last → ⊥)
    → ((layer last letters : ℕ) → d ≡ Line layer last letters → ⊥) → ((layer last : ℕ) → d ≡ Area layer last → ⊥)
    → ws ≡ sets ws (stored_at d c b) (record_words d t r)
none_stored (Mesh last) t r c b ws o p q = refl
none_stored (Layer last) t r c b ws o p q = absurd (o last refl)
none_stored (Node layer last) t r c b ws o p q = refl
none_stored (Line layer last letters) t r c b ws o p q = absurd (p layer last letters refl)
none_stored (Coordinates left) t r c b ws o p q = refl
none_stored (Area layer last) t r c b ws o p q = absurd (q layer last refl)
none_stored (Loop last count left) t r c b ws o p q = refl

-- the words xs, ys, zs in the sections: rows in p words, lines in q words, areas in the rest
abbrev laid_out : List ℕ → List ℕ → List ℕ → ℕ → ℕ → List ℕ → List ℕ
laid_out xs ys zs p q d = filled xs (take p d) ++ (filled ys (take q (drop p d)) ++ filled zs (drop q (drop p d)))

module _ (xs ys zs d : List ℕ) (p q : ℕ) (fits : p + q ≤ length d) (fx : length xs ≤ p) (fy : length ys ≤ q) where
  first_length : length (filled xs (take p d)) ≡ p
  first_length =
      let e : length (take p d) ≡ p = length-take-le p d (omega arith) in
      filled_length xs (take p d) (rw e fx) ∙ e

  second_length : length (filled ys (take q (drop p d))) ≡ q
  second_length =
      let e : length (take q (drop p d)) ≡ q = length-take-le q (drop p d) (rw length-drop (omega arith)) in
      filled_length ys (take q (drop p d)) (rw e fy) ∙ e

  -- a row
  put_rows : (ws : List ℕ) (i : ℕ) → i ≡ length xs → length xs + length ws ≤ p → sets (laid_out xs ys zs p q d) i ws ≡ laid_out (xs ++ ws) ys zs p q d
  put_rows ws i e l =
      let z : length (take p d) ≡ p = length-take-le p d (omega arith) in
      rw e
      (sets_left ws (filled xs (take p d)) (filled ys (take q (drop p d)) ++ filled zs (drop q (drop p d))) (length xs) (rw first_length l)
      ∙ ap (λ (l : List ℕ). l ++ (filled ys (take q (drop p d)) ++ filled zs (drop q (drop p d)))) (more_filled xs ws (take p d) (rw z l)))

  -- a line
  put_lines : (ws : List ℕ) (i : ℕ) → i ≡ p + length ys → length ys + length ws ≤ q → sets (laid_out xs ys zs p q d) i ws ≡ laid_out xs (ys ++ ws) zs p q d
  put_lines ws i e l =
      let z : length (take q (drop p d)) ≡ q = length-take-le q (drop p d) (rw length-drop (omega arith)) in
      let j : i ≡ length (filled xs (take p d)) + length ys = e ∙ ap (λ (n : ℕ). n + length ys) (sym first_length) in
      rw j
      (sets_right ws (filled xs (take p d)) (filled ys (take q (drop p d)) ++ filled zs (drop q (drop p d))) (length ys)
      ∙ ap (λ (l : List ℕ). filled xs (take p d) ++ l)
      (sets_left ws (filled ys (take q (drop p d))) (filled zs (drop q (drop p d))) (length ys) (rw second_length l)
      ∙ ap (λ (l : List ℕ). l ++ filled zs (drop q (drop p d))) (more_filled ys ws (take q (drop p d)) (rw z l))))

  -- an area
  put_areas : (ws : List ℕ) (i : ℕ) → i ≡ p + q + length zs → p + q + length zs + length ws ≤ length d
      → sets (laid_out xs ys zs p q d) i ws ≡ laid_out xs ys (zs ++ ws) p q d
  put_areas ws i e l =
      let j : i ≡ length (filled xs (take p d)) + (length (filled ys (take q (drop p d))) + length zs) = rw (first_length, second_length) (omega arith) in
      rw j
      (sets_right ws (filled xs (take p d)) (filled ys (take q (drop p d)) ++ filled zs (drop q (drop p d)))
      (length (filled ys (take q (drop p d))) + length zs)
      ∙ ap (λ (l : List ℕ). filled xs (take p d) ++ l)
      (sets_right ws (filled ys (take q (drop p d))) (filled zs (drop q (drop p d))) (length zs)
      ∙ ap (λ (l : List ℕ). filled ys (take q (drop p d)) ++ l) (more_filled zs ws (drop q (drop p d)) (rw (length-drop, length-drop) (omega arith)))))

-- the words of a record due as d, behind words of which c counts
turn : (d : Due) (t : List ℕ) (r : ℕ) (c : Counts) (b : Bases) (xs ys zs o : List ℕ) (p q : ℕ)
    → length xs ≡ row_length * c.layers → length ys ≡ c.lines → length zs ≡ c.areas
    → row_length * (counted_for d c t).layers ≤ p → (counted_for d c t).lines ≤ q → p + q + (counted_for d c t).areas ≤ length o
    → b.lines ≡ p → b.areas ≡ p + q
    → sets (laid_out xs ys zs p q o) (stored_at d c b) (record_words d t r) ≡ laid_out (xs ++ row_words d t r) (ys ++ line_words d t r) (zs ++ area_words d t r) p q o
turn (Mesh last) t r c b xs ys zs o p q ex ey ez fx fy fz bl ba = rw (append-nil, append-nil, append-nil)
turn (Layer last) t r c b xs ys zs o p q ex ey ez fx fy fz bl ba =
    put_rows xs ys zs o p q (omega arith) (omega arith) (omega arith) (row_words (Layer last) t r) (row_length * c.layers) (sym ex) (omega arith)
    ∙ rw (append-nil, append-nil)
turn (Node layer last) t r c b xs ys zs o p q ex ey ez fx fy fz bl ba = rw (append-nil, append-nil, append-nil)
turn (Line layer last letters) t r c b xs ys zs o p q ex ey ez fx fy fz bl ba =
    put_lines xs ys zs o p q (omega arith) (omega arith) (omega arith) (r ∷ []) (b.lines + c.lines) (omega arith) (omega arith) ∙ rw (append-nil, append-nil)
turn (Coordinates left) t r c b xs ys zs o p q ex ey ez fx fy fz bl ba = rw (append-nil, append-nil, append-nil)
turn (Area layer last) t r c b xs ys zs o p q ex ey ez fx fy fz bl ba =
    put_areas xs ys zs o p q (omega arith) (omega arith) (omega arith) (r ∷ []) (b.areas + c.areas) (omega arith) (omega arith) ∙ rw (append-nil, append-nil)
turn (Loop last count left) t r c b xs ys zs o p q ex ey ez fx fy fz bl ba = rw (append-nil, append-nil, append-nil)

room_one : (d : Due) (t : List ℕ) (c : Counts) (b : Bases) (p q n : ℕ)
    → row_length * (counted_for d c t).layers ≤ p → (counted_for d c t).lines ≤ q → p + q + (counted_for d c t).areas ≤ n
    → b.lines ≡ p → b.areas ≡ p + q
    → stored_at d c b + many_of d ≤ n
room_one (Mesh last) t c b p q n fx fy fz bl ba = omega arith
room_one (Layer last) t c b p q n fx fy fz bl ba = omega arith
room_one (Node layer last) t c b p q n fx fy fz bl ba = omega arith
room_one (Line layer last letters) t c b p q n fx fy fz bl ba = omega arith
room_one (Coordinates left) t c b p q n fx fy fz bl ba = omega arith
room_one (Area layer last) t c b p q n fx fy fz bl ba = omega arith
room_one (Loop last count left) t c b p q n fx fy fz bl ba = omega arith

-- ---- the loop that fills

-- the sections behind k records, in a buffer o that has room for the words of n
abbrev pub stored_to : List ℕ → ℕ → ℕ → List ℕ → List ℕ
stored_to file n k o = Sections file (row_length * (counts_at file n).layers) (counts_at file n).lines k o

-- where the sections begin
abbrev pub store_bases : Counts → Bases
store_bases c = record { lines = row_length * c.layers; areas = row_length * c.layers + c.lines }

-- a file of n records, which count up to total, and a buffer o that has room for their words
module _ (file o : List ℕ) {n : ℕ} {total : Counts} (en : n ≡ records_of file) (et : total ≡ counts_at file (records_of file))
    (room : row_length * total.layers + (total.lines + total.areas) ≤ length o) where
  -- the words of the rows and of the lines
  abbrev p : ℕ
  p = row_length * (counts_at file n).layers

  abbrev q : ℕ
  q = (counts_at file n).lines

  all : total ≡ counts_at file n
  all = et ∙ ap (counts_at file) (sym en)

  fits : p + (q + (counts_at file n).areas) ≤ length o
  fits = subst (λ (c : Counts). row_length * c.layers + (c.lines + c.areas) ≤ length o) all room

  -- behind no record the buffer is as it was
  pub none_filled : o ≡ stored_to file n 0 o
  unfolding Sections gather
  none_filled = sym (ap (λ (l : List ℕ). take p o ++ l) (take-append-drop q (drop p o)) ∙ take-append-drop p o)

  -- behind k records it is v, as long as it was
  pub filled_many : (k : ℕ) {v : List ℕ} → k ≤ n → v ≡ stored_to file n k o → length v ≡ length o
  unfolding Sections
  filled_many k l m =
      let g = grown file n k l in
      let s = counted file k in
      let u = fits in
      let a =
      first_length (gather row_words file k) (gather line_words file k) (gather area_words file k) o p q
      (omega arith) (omega (arith, g.layers, s.rows)) (omega (arith, g.lines, s.lines)) in
      let b =
      second_length (gather row_words file k) (gather line_words file k) (gather area_words file k) o p q
      (omega arith) (omega (arith, g.layers, s.rows)) (omega (arith, g.lines, s.lines)) in
      let c : length (drop q (drop p o)) ≡ length o - p - q = rw (length-drop, length-drop) in
      let e : length (filled (gather area_words file k) (drop q (drop p o))) ≡ length o - p - q =
      filled_length (gather area_words file k) (drop q (drop p o)) (omega (arith, c, g.areas, s.areas)) ∙ c in
      let f =
      length-append (filled (gather row_words file k) (take p o))
      (filled (gather line_words file k) (take q (drop p o)) ++ filled (gather area_words file k) (drop q (drop p o))) in
      let h = length-append (filled (gather line_words file k) (take q (drop p o))) (filled (gather area_words file k) (drop q (drop p o))) in
      rw m (f ∙ omega (arith, a, b, e, h))

  -- record k + 1 is due as d, behind the counts c, and the buffer is v
  module _ (k : ℕ) {d : Due} {c : Counts} {v : List ℕ} (l : k < n)
      (ed : d ≡ due_of (state_at file k)) (ec : c ≡ counts_at file k) (ev : v ≡ stored_to file n k o) where
    within : Grown (counts_at file (suc k)) (counts_at file n)
    within = grown file n (suc k) (omega arith)

    -- there is room for its words
    pub room_left : Roomy d c (store_bases total) (length v)
    unfolding counts_at
    room_left =
        let g = within in
        let u = fits in
        let m : length v ≡ length o = filled_many k (omega arith) ev in
        record {
          room = rw (ed, ec, all, m)
              (room_one (due_of (state_at file k)) (record_of file (suc k)) (counts_at file k) (store_bases (counts_at file n)) p q
              (length o) (omega (arith, g.layers)) (omega (arith, g.lines)) (omega (arith, g.areas)) refl refl);
        }

    -- and with them the buffer is w
    pub one_filled : {t w : List ℕ} → t ≡ record_of file (k + 1)
        → w ≡ sets v (stored_at d c (store_bases total)) (record_words d t (k + 1)) → w ≡ stored_to file n (k + 1) o
    unfolding Sections gather counts_at
    one_filled e h =
        let g = within in
        let s = counted file k in
        let u = fits in
        h ∙ rw (e, ev, ed, ec, all, add-one)
        (turn (due_of (state_at file k)) (record_of file (suc k)) (suc k) (counts_at file k) (store_bases (counts_at file n))
        (gather row_words file k) (gather line_words file k) (gather area_words file k) o p q
        s.rows s.lines s.areas (omega (arith, g.layers)) (omega (arith, g.lines)) (omega (arith, g.areas)) refl refl)

  -- quiet records have no words
  pub quiet_filled : (k : ℕ) {h : ℕ} {s : State} {v : List ℕ} → s ≡ state_at file k → Quiet s h → v ≡ stored_to file n k o → v ≡ stored_to file n (k + h) o
  unfolding Sections
  quiet_filled k {h} e f ev =
      ev
      ∙ sym (rw (
        passed_words file k e f row_words row_quiet h (le_refl h),
        passed_words file k e f line_words line_quiet h (le_refl h),
        passed_words file k e f area_words area_quiet h (le_refl h),
      ))

  -- all records: the table stands in front, and the rest is as it was
  pub all_filled : (k : ℕ) {v : List ℕ} → k ≤ n → n ≤ k → v ≡ stored_to file n k o → v ≡ filled (table_of file) o
  unfolding Sections table_of
  all_filled k l m ev =
      let s = counted file n in
      let u = fits in
      let z : k ≡ n = omega arith in
      let x : drop (length (gather row_words file n)) (take p o) ≡ [] =
      drop_of_length-le (take p o) {i = length (gather row_words file n)} (omega (arith, s.rows, length-take-le p o (omega arith))) in
      let y : drop (length (gather line_words file n)) (take q (drop p o)) ≡ [] =
      drop_of_length-le (take q (drop p o)) {i = length (gather line_words file n)}
      (omega (arith, s.lines, length-take-le q (drop p o) (rw length-drop (omega arith)))) in
      ev ∙ rw (z, x, y, ← en, append-nil, append-nil, drop-drop, drop-drop, length-append, length-append, s.rows, s.lines, append_assoc, append_assoc)
