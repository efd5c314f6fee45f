-- THE LAWS OF MEASURES: what joining, turning and cutting do to a line's, a loop's and an area's measure. Assumes nothing.
use mathlib.Core.List.{List, [], ◌∷◌, ◌++◌, map, reverse, reverse-cons, reverse_aux-eq, flatten}
use mathlib.Core.Path.{◌≡◌, refl, sym, ◌∙◌, ap}
use Prim.Native.Nat.{ℕ}
use lib.IntN.{ℤ, pos, neg_ℤ, ◌+ℤ◌, ◌-ℤ◌, ◌*ℤ◌, +ℤ_assoc, +ℤ_comm, +ℤ_idl, +ℤ_idr, +ℤ_invr, neg_ℤ-+ℤ, neg_ℤ-neg_ℤ, *ℤ-zero, zero-*ℤ}
use Rattle.measures.specs.Measures.{Point, steps, cross, line_measure, Entry, plus, minus, entry_measure, loop_measure, area_measure}
use Rattle.measures.specs.Sum.{sum}
use Rattle.measures.proofs.SumLaws.{sum_append, sum_concat, sum_ext, sum_neg, sum_map}

-- ---- two points

difference_turned : (a b : ℤ) → b -ℤ a ≡ neg_ℤ (a -ℤ b)
difference_turned a b = rw (neg_ℤ-+ℤ a (neg_ℤ b), neg_ℤ-neg_ℤ b) (+ℤ_comm b (neg_ℤ a))

-- turned round, the sign turns
pub cross_turned : (p q : Point) → cross q p ≡ neg_ℤ (cross p q)
cross_turned p q = difference_turned (q.x *ℤ p.y) (p.x *ℤ q.y)

pub cross_same : (p : Point) → cross p p ≡ pos 0
cross_same p = +ℤ_invr (p.x *ℤ p.y)

pub cross_origin : (q : Point) → cross (record { x = pos 0; y = pos 0 }) q ≡ pos 0
cross_origin q = rw (*ℤ-zero q.x, zero-*ℤ q.y)

-- ---- lines

-- without points, or with one, there is nothing to measure
pub line_none : line_measure [] ≡ pos 0
unfolding line_measure sum steps
line_none = refl

pub line_one : (p : Point) → line_measure (p ∷ []) ≡ pos 0
unfolding line_measure sum steps
line_one p = refl

line_first : (p q : Point) (ps : List Point) → line_measure (p ∷ q ∷ ps) ≡ cross p q +ℤ line_measure (q ∷ ps)
unfolding line_measure sum steps
line_first p q ps = refl

-- two lines that share a point
pub line_joined : (ps : List Point) (p : Point) (qs : List Point) → line_measure (ps ++ (p ∷ qs)) ≡ line_measure (ps ++ (p ∷ [])) +ℤ line_measure (p ∷ qs)
line_joined [] p qs = rw (line_one p) (sym (+ℤ_idl (line_measure (p ∷ qs))))
line_joined (o ∷ []) p qs = rw (line_first o p qs, line_first o p [], line_one p, +ℤ_idr (cross o p))
line_joined (o ∷ q ∷ ps) p qs =
    rw (line_first o q (ps ++ (p ∷ qs)), line_first o q (ps ++ (p ∷ [])), line_joined (q ∷ ps) p qs)
    (sym (+ℤ_assoc (cross o q) (line_measure (q ∷ ps ++ (p ∷ []))) (line_measure (p ∷ qs))))

-- one more point
pub line_more : (ps : List Point) (p q : Point) → line_measure (ps ++ (p ∷ q ∷ [])) ≡ line_measure (ps ++ (p ∷ [])) +ℤ cross p q
line_more ps p q = line_joined ps p (q ∷ []) ∙ rw (line_first p q [], line_one q, +ℤ_idr (cross p q))

-- backwards, the sign turns
pub line_backwards : (ps : List Point) → line_measure (reverse ps) ≡ neg_ℤ (line_measure ps)
line_backwards [] = line_none ∙ rw line_none
line_backwards (p ∷ []) = line_one p ∙ rw (line_one p)
line_backwards (p ∷ q ∷ ps) =
    ap line_measure (reverse_aux-eq ps (q ∷ p ∷ []))
    ∙ line_more (reverse ps) q p
    ∙ rw (← reverse-cons q ps, line_backwards (q ∷ ps), cross_turned p q, line_first p q ps, neg_ℤ-+ℤ (cross p q))
    (+ℤ_comm (neg_ℤ (line_measure (q ∷ ps))) (neg_ℤ (cross p q)))

-- ---- loops and areas

-- two parts of a loop
pub loop_joined : (m : ℕ → ℤ) (es fs : List Entry) → loop_measure m (es ++ fs) ≡ loop_measure m es +ℤ loop_measure m fs
unfolding loop_measure
loop_joined m es fs = sum_append (entry_measure m) es fs

-- an area's measure is that of its loops' entries in a row
pub area_entries : (m : ℕ → ℤ) (ls : List (List Entry)) → area_measure m ls ≡ loop_measure m (flatten ls)
unfolding area_measure loop_measure
area_entries m ls = sym (sum_concat (entry_measure m) ls)

-- an entry the other way round
abbrev pub turned : Entry → Entry
turned (plus n) = minus n
turned (minus n) = plus n

entry_turned : (m : ℕ → ℤ) (e : Entry) → entry_measure m (turned e) ≡ neg_ℤ (entry_measure m e)
entry_turned m (plus n) = refl
entry_turned m (minus n) = sym (neg_ℤ-neg_ℤ (m n))

-- every entry the other way round, and the sign turns
pub loop_turned : (m : ℕ → ℤ) (es : List Entry) → loop_measure m (map turned es) ≡ neg_ℤ (loop_measure m es)
unfolding loop_measure
loop_turned m es = sum_map (entry_measure m) turned es ∙ sum_ext _ _ (entry_turned m) es ∙ sum_neg (entry_measure m) es
