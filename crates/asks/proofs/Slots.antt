-- Where a record's asks stand in their list: a row of slots or points behind the first d numbers, and nothing past the last one.
-- Assumes nothing.
use mathlib.Core.List.{List, [], ◌∷◌}
use mathlib.Core.Path.{◌≡◌, sym, ap, ◌∙◌}
use Prim.Native.Nat.{ℕ, zero, suc, ◌+◌, ◌-◌, ◌≤◌, ◌<◌}
use native.Mathlib.Nat.{add-zero}
use native.Mathlib.Omega.{arith}
use lib.Dec.{ltb}
use lib.IntN.{ℤ}
use lib.ListN.{length, get_or, drop, get_or-eq_default}
use lib.Seq.{get_or-drop}
use Rattle.std.specs.Prelude.{Ok}
use Rattle.permitted.specs.Permitted.{is_slot}
use Rattle.asks.specs.Asks.{Ask, permitted, at, from, slot_ask, first_asked}

-- entry i of a row that begins with f k is f (k + i), by recursion along the row
from_at : {A : Type 0} (f : ℕ → A) (k n i : ℕ) (z : A) → i < n → get_or (from f k n) i z ≡ f (k + i)
unfolding from
from_at f k zero i z h = absurd (omega arith)
from_at f k (suc n) zero z h = rw add-zero
from_at f k (suc n) (suc i) z h =
    let e : suc k + i ≡ k + suc i = omega arith in
    from_at f (suc k) n i z (omega arith) ∙ ap f e

-- so entry i of a row that begins with f 0 is f i
pub row_at : {A : Type 0} (f : ℕ → A) (n i : ℕ) (z : A) → i < n → get_or (from f 0 n) i z ≡ f i
row_at f n i z h =
    let e : 0 + i ≡ i = omega arith in
    from_at f 0 n i z h ∙ ap f e

-- and behind d entries it is entry d + i of the whole list
row_behind : {A : Type 0} (L : List A) (d n : ℕ) (f : ℕ → A) (i : ℕ) (z : A) → drop d L ≡ from f 0 n → d ≤ i → i - d < n → get_or L i z ≡ f (i - d)
row_behind L d n f i z e l h =
    let q : d + (i - d) ≡ i = omega arith in
    let g : get_or (drop d L) (i - d) z ≡ get_or L i z = rw q at (get_or-drop d L (i - d) z) in
    sym g ∙ rw e (row_at f n (i - d) z h)

-- what is asked of number i, which is slot i - d of its row
pub slot_asked : (L : List (List Ask)) (d n count i : ℕ) (ns : List ℤ) {v : ℤ} → v ≡ at ns i → drop d L ≡ from (slot_ask count ns d) 0 n
    → d ≤ i → i - d < n → first_asked (permitted (is_slot (ltb (i - d) count) v) ∷ []) ≡ first_asked (get_or L i [])
slot_asked L d n count i ns e q l h =
    let p : d + (i - d) ≡ i = omega arith in
    rw (row_behind L d n (slot_ask count ns d) i [] q l h, p, e)

-- past the end of the list nothing is asked, so nothing is broken
pub none_asked : (L : List (List Ask)) (i : ℕ) → length L ≤ i → Ok tt ≡ first_asked (get_or L i [])
unfolding first_asked
none_asked L i h = rw (get_or-eq_default L [] h)
