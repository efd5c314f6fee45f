-- What the slots of a row of loop records say of its entries: a slot has no entry or one, and a row's entries are those of its slots, in
-- order. So rules about all slots are rules about the entries, and an area's loops measure what its row does. Assumes nothing.
use mathlib.Core.Bool.{Bool, true, false, cond, ◌&&◌, ◌||◌, not, false≢true, or_assoc, or-false, and_comm}
use mathlib.Core.List.{List, [], ◌∷◌, ◌++◌, append-nil, append_assoc}
use mathlib.Core.Path.{◌≡◌, refl, sym, ◌∙◌, ap, ap₂}
use Prim.Native.Nat.{ℕ, zero, suc, ◌+◌, ◌*◌, ◌<◌}
use native.Mathlib.Nat.{add-zero, add-suc, le_refl}
use native.Mathlib.Omega.{arith}
use lib.Dec.{eqb, leb}
use lib.IntN.{ℤ, pos, negsuc, ◌+ℤ◌, +ℤ_idr}
use borrow.Author.Tests.{leb-true, eqb-true, eqb-false, eq-eqb, ne_eqb, not-true}
use Rattle.permitted.specs.Permitted.{natural, size, is_zero}
use Rattle.layers.specs.declared.Layer.{Layer}
use Rattle.layers.specs.Naming.{names_line}
use Rattle.links.specs.Links.{equal, entry_is, some, loop_entry}
use Rattle.measures.specs.Ground.{same_entry, listed_in, Each, entry_area, Named, Known, NoRepeat, Own}
use Rattle.measures.specs.Measures.{Entry, plus, minus, loop_measure, area_measure}
use Rattle.measures.specs.Sum.{sum}
use Rattle.measures.proofs.MeasureLaws.{loop_joined}
use Rattle.measures.proofs.SumLaws.{sum_append}
use Rattle.entries.specs.Entries.{slot_of, entry_of, entries_to, records_for, count_at, records_to, loops_at, slots_of, loop_at, loops_to}
use Rattle.entries.specs.Loops.{measure_of, area_measure_in}

-- ---- tests

-- where the first fails, the second holds
or_second : (a b : Bool) → a ≡ false → a || b ≡ true → b ≡ true
or_second true b e h = absurd (false≢true (sym e))
or_second false b e h = h

or_none : (a b : Bool) → a || b ≡ false → (a ≡ false) × (b ≡ false)
or_none true b h = absurd (false≢true (sym h))
or_none false b h = (refl, h)

and_second : (a b : Bool) → a && b ≡ true → b ≡ true
and_second true b h = h
and_second false b h = absurd (false≢true h)

eqb_turned : (a b : ℕ) → eqb a b ≡ eqb b a
eqb_turned a b = by (eqb a b) refl
  where
    by : (t : Bool) → eqb a b ≡ t → eqb a b ≡ eqb b a
    by true e = e ∙ sym (eq-eqb b a (sym (eqb-true a b e)))
    by false e = e ∙ sym (ne_eqb b a (λ q. eqb-false a b e (sym q)))

same_turned : (e x : Entry) → same_entry e x ≡ same_entry x e
same_turned (plus i) (plus k) = eqb_turned i k
same_turned (plus i) (minus k) = refl
same_turned (minus i) (plus k) = refl
same_turned (minus i) (minus k) = eqb_turned i k

positive : (i : ℕ) → eqb (suc i) 0 ≡ false
positive i = ne_eqb (suc i) 0 (λ e. omega arith)

-- ---- lists of entries

each_joined : (P : Entry → Type 0) (es fs : List Entry) → Each P es → Each P fs → Each P (es ++ fs)
each_joined P [] fs h g = g
each_joined P (e ∷ es) fs h g = (h.0, each_joined P es fs h.1 g)

stands_joined : (e : Entry) (es fs : List Entry) → listed_in e (es ++ fs) ≡ listed_in e es || listed_in e fs
unfolding listed_in
stands_joined e [] fs = refl
stands_joined e (x ∷ es) fs = rw (stands_joined e es fs) (sym (or_assoc (same_entry x e) (listed_in e es) (listed_in e fs)))

stands_one : (e x : Entry) → listed_in e (x ∷ []) ≡ same_entry x e
unfolding listed_in
stands_one e x = or-false (same_entry x e)

-- one entry more, which is none of those before it
once_more : (es : List Entry) (e : Entry) → NoRepeat es → listed_in e es ≡ false → NoRepeat (es ++ (e ∷ []))
unfolding listed_in
once_more [] e h q = (refl, tt)
once_more (x ∷ es) e h q =
    let n = or_none (same_entry x e) (listed_in e es) q in
    (stands_joined x es (e ∷ []) ∙ rw h.0 (stands_one x e ∙ same_turned e x ∙ n.0), once_more es e h.1 n.1)

-- ---- a slot

-- the entry of a slot that is not 0
abbrev sided : Bool → ℕ → Entry
sided back m = cond back (minus m) (plus m)

entry_none : (v : ℤ) → is_zero v ≡ true → entry_of v ≡ []
entry_none (pos zero) e = refl
entry_none (pos (suc i)) e = absurd (false≢true (sym (positive i) ∙ e))
entry_none (negsuc i) e = absurd (false≢true (sym (positive i) ∙ e))

entry_one : (v : ℤ) → is_zero v ≡ false → entry_of v ≡ sided (not (natural v)) (size v) ∷ []
entry_one (pos zero) e = absurd (false≢true (sym e))
entry_one (pos (suc i)) e = refl
entry_one (negsuc i) e = refl

-- an entry stands in a slot that is it
slot_stands : (back : Bool) (m : ℕ) → 0 < m → (v : ℤ) → listed_in (sided back m) (entry_of v) ≡ entry_is back m v
unfolding listed_in entry_is
slot_stands true m l (pos zero) = rw (ne_eqb 0 m (λ e. omega arith))
slot_stands false m l (pos zero) = rw (ne_eqb 0 m (λ e. omega arith))
slot_stands true m l (pos (suc i)) = and_comm false (eqb (suc i) m)
slot_stands false m l (pos (suc i)) = or-false (eqb (suc i) m) ∙ and_comm true (eqb (suc i) m)
slot_stands true m l (negsuc i) = or-false (eqb (suc i) m) ∙ and_comm true (eqb (suc i) m)
slot_stands false m l (negsuc i) = and_comm false (eqb (suc i) m)

equal_is : (v w : ℤ) → equal v w ≡ entry_is (not (natural v)) (size v) w
unfolding equal entry_is
equal_is (pos i) (pos k) = eqb_turned i k ∙ and_comm true (eqb k i)
equal_is (pos i) (negsuc k) = and_comm false (eqb (suc k) i)
equal_is (negsuc i) (pos k) = and_comm false (eqb k (suc i))
equal_is (negsuc i) (negsuc k) = eqb_turned (suc i) (suc k) ∙ and_comm true (eqb (suc k) (suc i))

slot_known : (m : ℕ) (v : ℤ) → (is_zero v || names_line m v) ≡ true → Known m (entry_of v)
unfolding names_line
slot_known m (pos zero) h = tt
slot_known m (pos (suc i)) h = ((omega arith, leb-true _ _ (and_second (leb 1 (suc i)) _ (or_second _ _ (positive i) h))), tt)
slot_known m (negsuc i) h = ((omega arith, leb-true _ _ (and_second (leb 1 (suc i)) _ (or_second _ _ (positive i) h))), tt)

slot_own : (left right : ℕ → ℕ) (a : ℕ) (v : ℤ) → (is_zero v || eqb (cond (natural v) (right (size v)) (left (size v))) a) ≡ true → Own left right a (entry_of v)
slot_own left right a (pos zero) h = tt
slot_own left right a (pos (suc i)) h = (eqb-true _ _ (or_second _ _ (positive i) h), tt)
slot_own left right a (negsuc i) h = (eqb-true _ _ (or_second _ _ (positive i) h), tt)

-- ---- a row

some_same : (n : ℕ) (f g : ℕ → Bool) → ((e : ℕ) → f e ≡ g e) → some n f ≡ some n g
unfolding some
some_same zero f g h = refl
some_same (suc n) f g h = rw (some_same n f g h, h n)

module _ (file : List ℕ) (f : ℕ) where
  each_row : (P : Entry → Type 0) (n : ℕ) → ((e : ℕ) → e < n → Each P (entry_of (slot_of file f e))) → Each P (entries_to file f n)
  unfolding entries_to
  each_row P zero h = tt
  each_row P (suc n) h = each_joined P (entries_to file f n) (entry_of (slot_of file f n)) (each_row P n (λ e l. h e (omega arith))) (h n (le_refl _))

  -- 11: all name lines
  pub row_known : (n m : ℕ) → ((e : ℕ) → e < n → (is_zero (slot_of file f e) || names_line m (slot_of file f e)) ≡ true) → Known m (entries_to file f n)
  row_known n m h = each_row (Named m) n (λ e l. slot_known m (slot_of file f e) (h e l))

  -- 17: all are area a's
  pub row_own : (n : ℕ) (left right : ℕ → ℕ) (a : ℕ)
      → ((e : ℕ) → e < n
      → (is_zero (slot_of file f e) || eqb (cond (natural (slot_of file f e)) (right (size (slot_of file f e))) (left (size (slot_of file f e)))) a) ≡ true)
      → Own left right a (entries_to file f n)
  row_own n left right a h = each_row (λ e. entry_area left right e ≡ a) n (λ e l. slot_own left right a (slot_of file f e) (h e l))

  stands_row : (e : Entry) (n : ℕ) → listed_in e (entries_to file f n) ≡ some n (λ i. listed_in e (entry_of (slot_of file f i)))
  unfolding entries_to some listed_in
  stands_row e zero = refl
  stands_row e (suc n) = stands_joined e (entries_to file f n) (entry_of (slot_of file f n)) ∙ rw (stands_row e n)

  -- an entry stands in the row if a slot is it, and only then
  pub row_stands : (n : ℕ) (back : Bool) (m : ℕ) → 0 < m
      → listed_in (cond back (minus m) (plus m)) (entries_to file f n) ≡ some n (λ e. entry_is back m (slot_of file f e))
  row_stands n back m l = stands_row (sided back m) n ∙ some_same n _ _ (λ e. slot_stands back m l (slot_of file f e))

  -- 18
  pub row_there : (n : ℕ) (back : Bool) (m : ℕ) → 0 < m → some n (λ e. entry_is back m (slot_of file f e)) ≡ true
      → listed_in (cond back (minus m) (plus m)) (entries_to file f n) ≡ true
  row_there n back m l h = row_stands n back m l ∙ h

  -- 13: no slot that is not 0 is like one before it
  pub row_once : (n : ℕ) → ((e : ℕ) → e < n → (is_zero (slot_of file f e) || not (some e (λ j. equal (slot_of file f e) (slot_of file f j)))) ≡ true)
      → NoRepeat (entries_to file f n)
  unfolding entries_to
  row_once zero h = tt
  row_once (suc n) h = more n (slot_of file f n) (is_zero (slot_of file f n)) refl (row_once n (λ e l. h e (omega arith))) (h n (le_refl _))
    where
      more : (n : ℕ) (v : ℤ) (t : Bool) → is_zero v ≡ t → NoRepeat (entries_to file f n) → (t || not (some n (λ j. equal v (slot_of file f j)))) ≡ true
          → NoRepeat (entries_to file f n ++ entry_of v)
      more n v true e o h = rw (entry_none v e, append-nil (entries_to file f n)) o
      more n v false e o h =
          let q = some_same n _ _ (λ j. equal_is v (slot_of file f j)) in
          let l : 0 < size v = omega (arith, eqb-false (size v) 0 e) in
          rw (entry_one v e) (once_more (entries_to file f n) _ o (row_stands n (not (natural v)) (size v) l ∙ sym q ∙ not-true _ h))

-- ---- rows one after another

module _ (file : List ℕ) (f : ℕ) where
  -- q records further on
  pub slot_shift : (q e : ℕ) → slot_of file (f + q) e ≡ slot_of file f (12 * q + e)
  unfolding slot_of
  slot_shift q e = ap₂ (loop_entry file) (omega arith) (omega arith)

  -- the first q records, and what is behind them
  pub entries_joined : (q n : ℕ) → entries_to file f (12 * q + n) ≡ entries_to file f (12 * q) ++ entries_to file (f + q) n
  unfolding entries_to
  entries_joined q zero = rw add-zero (sym (append-nil (entries_to file f (12 * q))))
  entries_joined q (suc n) =
      rw (add-suc, entries_joined q n, slot_shift q n)
      (append_assoc (entries_to file f (12 * q)) (entries_to file (f + q) n) (entry_of (slot_of file f (12 * q + n))))

-- ---- an area's measure

-- one loop more
loop_more : (m : ℕ → ℤ) (ls : List (List Entry)) (es : List Entry) → area_measure m (ls ++ (es ∷ [])) ≡ area_measure m ls +ℤ loop_measure m es
unfolding area_measure sum
loop_more m ls es = sum_append (loop_measure m) ls (es ∷ []) ∙ rw (+ℤ_idr (loop_measure m es))

module _ (file : List ℕ) (a : ℕ) where
  -- a loop's entries stand behind those of the loops before it
  pub row_more : (j : ℕ)
      → entries_to file (a + 1) (12 * records_to file a (suc j)) ≡ entries_to file (a + 1) (12 * records_to file a j) ++ loop_at file (a + 1 + records_to file a j)
  unfolding records_to loop_at
  row_more j =
      let x = records_to file a j in
      let r = records_for (count_at file (a + 1 + x)) in
      let e : 12 * (x + r) ≡ 12 * x + 12 * r = omega arith in
      ap (entries_to file (a + 1)) e ∙ entries_joined file (a + 1) x (12 * r)

  -- the first j loops measure what their row does
  pub loops_row : (m : ℕ → ℤ) (j : ℕ) → area_measure m (loops_to file a j) ≡ loop_measure m (entries_to file (a + 1) (12 * records_to file a j))
  unfolding area_measure loop_measure loops_to records_to entries_to sum
  loops_row m zero = refl
  loops_row m (suc j) =
      let es = entries_to file (a + 1) (12 * records_to file a j) in
      let l = loop_at file (a + 1 + records_to file a j) in
      loop_more m (loops_to file a j) l
      ∙ ap (λ z. z +ℤ loop_measure m l) (loops_row m j)
      ∙ sym (ap (loop_measure m) (row_more j) ∙ loop_joined m es l)

pub area_row : (file t : List ℕ) (l : Layer) (a : ℕ) → area_measure_in file t l a ≡ loop_measure (measure_of file t l) (entries_to file (a + 1) (slots_of file a))
unfolding area_measure_in slots_of
area_row file t l a = loops_row file a (measure_of file t l) (loops_at file a)
