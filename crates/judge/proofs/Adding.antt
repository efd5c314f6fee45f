-- Measures added up one by one, and stored one behind the other. What the machine adds is the sum, since each of the partial sums fits.
-- Assumes nothing.
use mathlib.Core.Bool.{Bool, cond}
use mathlib.Core.List.{List}
use mathlib.Core.Logic.{⊎_elim}
use mathlib.Core.Path.{◌≡◌, refl, sym, ◌∙◌, ap, ap₂}
use Prim.Native.Nat.{ℕ, zero, suc, ◌+◌, ◌*◌, ◌^◌, ◌≤◌, ◌<◌}
use native.Mathlib.Nat.{eq-or-lt_of_le}
use native.Mathlib.Numerals.{add-one}
use native.Mathlib.Omega.{arith}
use lib.Dec.{eqb}
use lib.IntN.{ℤ, pos, neg_ℤ, ◌+ℤ◌, ◌-ℤ◌, +ℤ_idr}
use lib.ListN.{length, get_or, set, length-append}
use lib.Seq.{sets}
use lib.Signed.{mag}
use mir.Facts.{to_z-of_z, to_z_pos}
use mir.Syntax.{w32, w64}
use mir.Val.{SFits, to_z, of_z, hbits}
use Rattle.records.specs.Columns.{left_area, right_area, value_at}
use Rattle.permitted.specs.Permitted.{size, is_zero}
use Rattle.walk.specs.Row.{areas_word}
use Rattle.walk.specs.Table.{filled}
use Rattle.walk.proofs.Stores.{more_filled, filled_length}
use Rattle.links.proofs.Numbers.{told}
use Rattle.measures.specs.Sum.{sum, sum_to}
use Rattle.measures.specs.Walks.{Small}
use Rattle.measures.specs.Measures.{Entry, loop_measure, area_measure}
use Rattle.measures.specs.Points.{first_of}
use Rattle.measures.proofs.SumLaws.{sum_append, sum_ext, sum_to_more}
use Rattle.measures.proofs.FirstLaws.{first_many, first_stored}
use Rattle.measures.proofs.Bounds.{fits_by, read_back}
use Rattle.layers.specs.declared.Bases.{Bases}
use Rattle.layers.specs.declared.Layer.{Layer}
use Rattle.layers.specs.Naming.{row_word, words_before, layer_in, line_of, area_of}
use Rattle.layers.proofs.Rows.{row_layer_lem}
use Rattle.layers.proofs.Sections.{areas, named}
use Rattle.layers.proofs.Laid.{words_more}
use Rattle.entries.specs.Entries.{loops_at, loop_at, loops_to, records_to}
use Rattle.entries.specs.Loops.{measure_of, area_measure_in}
use Rattle.entries.specs.Keeping.{kept_measure, Kept}
use Rattle.entries.proofs.Keeping.{most, kept_small, entries_kept}
use Rattle.entries.proofs.Summing.{turned_fits, turned_back}
use Rattle.ground.specs.Layers.{area_of_layer, areas_sum, left_area_of, right_area_of, outside_sum, measures_to}
use Rattle.judge.specs.Outcomes.{pair_of, pairs_to}
use Rattle.judge.specs.Measuring.{Fits, Measurable, kept_area, outside_at, Summable, SummableTo}

-- ---- a sum that goes on

-- the answer z, added to the sum x, fits, and n is the sum then
pub record Added (x z n : ℤ) : Type 0 where
  pub fits : SFits w64 (x +ℤ to_z w64 (of_z w64 z))
  pub is : to_z w64 (of_z w64 (x +ℤ to_z w64 (of_z w64 z))) ≡ n

added : {x z n s y : ℤ} → mag z < 2 ^ hbits w64 → z ≡ y → x ≡ s → n ≡ s +ℤ y → Fits n → Added x z n
added {x} {z} {n} g e p t f =
    let b : x +ℤ to_z w64 (of_z w64 z) ≡ n = ap₂ ◌+ℤ◌ p (to_z-of_z {w = w64} (record { sfits = g }) ∙ e) ∙ sym t in
    let h : SFits w64 (x +ℤ to_z w64 (of_z w64 z)) = rw b (fits_by f tt) in
    record { fits = h; is = to_z-of_z h ∙ b }

-- f (i + 1) behind the first i
pub sum_added : (f : ℕ → ℤ) (n i : ℕ) {x z : ℤ} → ((j : ℕ) → j ≤ n → Fits (sum_to j f))
    → i < n → x ≡ sum_to i f → mag z < 2 ^ hbits w64 → z ≡ f (suc i) → Added x z (sum_to (i + 1) f)
sum_added f n i h l p g e = added g e p (rw add-one (sum_to_more i f)) (h (i + 1) (omega arith))

-- ---- loops

module _ (file : List ℕ) (m : ℕ → ℤ) (a : ℕ) where
  area_more : (i : ℕ) → area_measure m (loops_to file a (i + 1)) ≡ area_measure m (loops_to file a i) +ℤ loop_measure m (loop_at file (a + 1 + records_to file a i))
  unfolding area_measure loops_to sum
  area_more i = rw (add-one, sum_append, +ℤ_idr)

  -- the measure z of the loop whose first record is f, behind the first i loops
  pub loop_added : (i : ℕ) {f : ℕ} {x z : ℤ} → Measurable file m a → i < loops_at file a → f ≡ a + 1 + records_to file a i → x ≡ area_measure m (loops_to file a i)
      → mag z < 2 ^ hbits w64 → z ≡ loop_measure m (loop_at file f) → Added x z (area_measure m (loops_to file a (i + 1)))
  loop_added i h l q p g e = added g (e ∙ ap (λ f. loop_measure m (loop_at file f)) q) p (area_more i) (h.fits (i + 1) (omega arith))

module _ (file t : List ℕ) (l : Layer) where
  -- ---- what was kept of the lines is their measures

  module _ (ms : List ℤ) (k : Kept file t l ms) where
    areas_kept : (ls : List (List Entry)) → area_measure (kept_measure l ms) ls ≡ area_measure (measure_of file t l) ls
    unfolding area_measure
    areas_kept ls = sum_ext _ _ (entries_kept file t l ms k) ls

    area_kept : (a : ℕ) → kept_area file l ms a ≡ area_measure_in file t l a
    unfolding kept_area area_measure_in
    area_kept a = areas_kept (loops_to file a (loops_at file a))

  -- ---- areas

  -- area a, counted from 0, whose A is record r
  module _ {a r : ℕ} (h : a < l.areas) (e : r ≡ get_or t (l.area + a) 0) where
    record_is : r ≡ area_of t l (pos (suc a))
    record_is = e ∙ sym (named areas t l a h)

    -- by the kept line measures ks
    module _ {ks : List ℤ} (k : Kept file t l ks) where
      pub area_measurable : Summable file t l → Measurable file (kept_measure l ks) r
      area_measurable s =
          let m = s.each (suc a) (omega arith) h in
          record { fits = λ j q. rw (areas_kept ks k (loops_to file r j), record_is) (m.fits j (rw record_is at q)) }

      pub area_told : {z : ℤ} → z ≡ kept_area file l ks r → z ≡ area_of_layer file t l (suc a)
      unfolding area_of_layer
      area_told p = p ∙ area_kept ks k r ∙ ap (area_measure_in file t l) record_is

      -- the area's measure z, stored behind those of the areas before it
      pub area_stored : (entry : List ℤ) (at : ℕ) {ms : List ℤ} {z : ℤ}
          → ms ≡ sets entry at (first_of (λ a. area_of_layer file t l (suc a)) a) → mag z < 2 ^ hbits w64 → z ≡ kept_area file l ks r
          → set ms (at + a) (to_z w64 (of_z w64 z)) ≡ sets entry at (first_of (λ a. area_of_layer file t l (suc a)) (a + 1))
      area_stored entry at p g q =
          ap₂ (λ (ms : List ℤ) (z : ℤ). set ms (at + a) z) p (to_z-of_z {w = w64} (record { sfits = g }) ∙ area_told q)
          ∙ first_stored (λ a. area_of_layer file t l (suc a)) entry at a

  -- ---- the outside

  -- whether line n's left and right area are 0
  pub record Sided (n : ℕ) (a b : Bool) : Type 0 where
    pub left : a ≡ eqb (left_area_of file t l n) 0
    pub right : b ≡ eqb (right_area_of file t l n) 0

  pub sided : (n : ℕ) {r : ℕ} {x y : ℤ} {a b : Bool} → n ≤ 9999 → r ≡ line_of t l (to_z w32 n) → mag x < 2 ^ hbits w32 → x ≡ value_at file r left_area
      → a ≡ is_zero (to_z w32 (of_z w32 x)) → mag y < 2 ^ hbits w32 → y ≡ value_at file r right_area → b ≡ is_zero (to_z w32 (of_z w32 y)) → Sided n a b
  unfolding left_area_of right_area_of
  sided n h e f p u g q v =
      let w = e ∙ ap (line_of t l) (to_z_pos w32 {n = n} (omega arith)) in
      record { left = told is_zero f (p ∙ ap (λ r. value_at file r left_area) w) u; right = told is_zero g (q ∙ ap (λ r. value_at file r right_area) w) v }

  pub outside_by : (n : ℕ) {a b : Bool} → Sided n a b
      → cond a (cond b (pos 0) (measure_of file t l n)) (cond b (neg_ℤ (measure_of file t l n)) (pos 0)) ≡ outside_at file t l n
  unfolding outside_at
  outside_by n d = rw (← d.left, ← d.right)

  -- the answer m of `line_measure` about line n, passed on, or taken away
  module _ (n : ℕ) {ms : List ℤ} {m : ℤ} (h : n ≤ 9999) (k : Kept file t l ms) (p : m ≡ kept_measure l ms (size (to_z w32 n))) where
    measure_is : m ≡ measure_of file t l n
    measure_is = p ∙ ap (λ v. kept_measure l ms (size v)) (to_z_pos w32 {n = n} (omega arith)) ∙ k.kept n

    measure_small : Small most m
    measure_small = rw p (kept_small l ms _)

    pub measure_passed : to_z w64 (of_z w64 m) ≡ measure_of file t l n
    measure_passed = read_back w64 measure_small tt ∙ measure_is

    pub measure_fits : SFits w64 (pos 0 -ℤ to_z w64 (of_z w64 m))
    measure_fits = turned_fits measure_small

    pub measure_turned : to_z w64 (of_z w64 (pos 0 -ℤ to_z w64 (of_z w64 m))) ≡ neg_ℤ (measure_of file t l n)
    measure_turned = turned_back measure_small ∙ ap neg_ℤ measure_is

-- ---- layers

module _ (t : List ℕ) (b : Bases) where
  row_areas : (i : ℕ) → i ≤ 6399936 → (layer_in t b i).areas ≡ row_word t i areas_word
  row_areas i h = ap (λ (l : Layer). l.areas) (row_layer_lem t b i h)

  -- the areas of the layers before row i and its own are some of those of n rows
  areas_more : (i n : ℕ) → i < n → n ≤ 6399936 → words_before t areas_word i + (layer_in t b i).areas ≤ words_before t areas_word n
  areas_more i n h f = rw (row_areas i (omega arith)) (words_more t areas_word i n h)

  words_up : (i n : ℕ) → i ≤ n → n ≤ 6399936 → words_before t areas_word i ≤ words_before t areas_word n
  words_up i n h f = ⊎_elim (λ e. rw e (omega arith)) (λ l. omega (arith, areas_more i n l f)) (eq-or-lt_of_le h)

  module _ (file : List ℕ) where
    -- as many measures as areas
    pub measures_many : (n : ℕ) → n ≤ 6399936 → length (measures_to file t b n) ≡ words_before t areas_word n
    unfolding measures_to words_before
    measures_many zero h = refl
    measures_many (suc n) h = rw (length-append, measures_many n (omega arith), first_many, row_areas n (omega arith))

    filled_many : (n : ℕ) (ms : List ℤ) → n ≤ 6399936 → words_before t areas_word n ≤ length ms → length (filled (measures_to file t b n) ms) ≡ length ms
    filled_many n ms h f = filled_length (measures_to file t b n) ms (rw (measures_many n h) f)

    -- a layer's measures behind those of the layers before it
    layer_filled : (i : ℕ) (ms : List ℤ) → i < 6399936 → words_before t areas_word i + (layer_in t b i).areas ≤ length ms
        → sets (filled (measures_to file t b i) ms) (words_before t areas_word i)
        (first_of (λ a. area_of_layer file t (layer_in t b i) (suc a)) (layer_in t b i).areas)
        ≡ filled (measures_to file t b (i + 1)) ms
    unfolding measures_to
    layer_filled i ms h f =
        rw (add-one, ← measures_many i (omega arith))
        (more_filled (measures_to file t b i) (first_of (λ a. area_of_layer file t (layer_in t b i) (suc a)) (layer_in t b i).areas) ms
        (rw (measures_many i (omega arith), first_many) f))

    pub none_filled : (ms : List ℤ) → ms ≡ filled (measures_to file t b 0) ms
    unfolding measures_to
    none_filled ms = refl

    -- one of the first n layers
    pub next_summable : {n i : ℕ} {l : Layer} → SummableTo file t b n → i < n → l ≡ layer_in t b i → Summable file t l
    next_summable f h e = rw e (f.each _ h)

    -- the first i of n layers are filled into what held `entry`; l is the next one
    module _ (n i : ℕ) (entry : List ℤ) {at : ℕ} {ms : List ℤ} (f : SummableTo file t b n × (words_before t areas_word n ≤ length entry))
        (p : at ≡ words_before t areas_word i) (q : ms ≡ filled (measures_to file t b i) entry) where
      same_many : i ≤ n → length ms ≡ length entry
      same_many h = rw q (filled_many i entry (omega (arith, f.0.few)) (omega (arith, words_up i n h f.0.few, f.1)))

      module _ {l : Layer} (h : i < n) (e : l ≡ layer_in t b i) where
        pub room : at + l.areas ≤ length ms
        room = rw (p, e, same_many (omega arith)) (omega (arith, areas_more i n h f.0.few, f.1))

        pub at_more : at + l.areas ≡ words_before t areas_word (i + 1)
        unfolding words_before
        at_more = rw (add-one, p, e, row_areas i (omega (arith, f.0.few)))

        pub layer_put : {out : List ℤ} → out ≡ sets ms at (first_of (λ a. area_of_layer file t l (suc a)) l.areas)
            → out ≡ filled (measures_to file t b (i + 1)) entry
        layer_put o = o ∙ rw (q, p, e) (layer_filled i entry (omega (arith, f.0.few)) (omega (arith, areas_more i n h f.0.few, f.1)))

    -- ---- the sums of each layer

    pub pairs_many : (n : ℕ) → length (pairs_to file t b n) ≡ 2 * n
    unfolding pairs_to
    pairs_many zero = refl
    pairs_many (suc n) = rw (length-append, pairs_many n) (omega arith)

    -- the first i of n pairs are filled into what held `entry`
    module _ (n i : ℕ) (entry : List ℤ) {ss : List ℤ} (w : 2 * n ≤ length entry) (q : ss ≡ filled (pairs_to file t b i) entry) where
      -- the two sums s of the next layer l, stored
      pub pair_put : i < n → {l : Layer} {s : ℤ × ℤ} → l ≡ layer_in t b i → ◌≡◌ {A = ℤ × ℤ} s (areas_sum file t l, outside_sum file t l)
          → mag s.0 < 2 ^ hbits w64 → mag s.1 < 2 ^ hbits w64
          → set (set ss (2 * i) (to_z w64 (of_z w64 s.0))) (2 * i + 1) (to_z w64 (of_z w64 s.1)) ≡ filled (pairs_to file t b (i + 1)) entry
      unfolding pairs_to
      pair_put h e g u v =
          rw (to_z-of_z {w = w64} (record { sfits = u }), to_z-of_z {w = w64} (record { sfits = v }), g, e, q, add-one, add-one, ← pairs_many i)
          (more_filled (pairs_to file t b i) (pair_of file t (layer_in t b i)) entry (rw (pairs_many i) (omega arith)))
