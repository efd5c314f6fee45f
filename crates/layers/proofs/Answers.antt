-- What the answers of `names_line` and of `permitted::size` say of the number that was asked about. Assumes nothing.
use mathlib.Core.Bool.{Bool, true}
use mathlib.Core.Path.{◌≡◌}
use Prim.Native.Nat.{ℕ, ◌≤◌}
use lib.Dec.{leb}
use lib.IntN.{ℤ}
use mir.Syntax.{w32}
use mir.Val.{SFits, to_z, of_z}
use borrow.Author.Tests.{leb-true}
use Rattle.verdict.proofs.Orders.{and_both}
use Rattle.permitted.specs.Permitted.{size}
use Rattle.permitted.proofs.Signs.{own_told, own_asked}
use Rattle.layers.specs.Naming.{names_line}

-- an entry that names a line has a size of 1 or more, and no more than there are
pub line_size : (n : ℕ) (v : ℤ) → names_line n v ≡ true → (1 ≤ size v) × (size v ≤ n)
unfolding names_line
line_size n v e =
    let s = and_both (leb 1 (size v)) (leb (size v) n) e in
    (leb-true 1 (size v) s.0, leb-true (size v) n s.1)

-- where `names_line(n, v)` holds, the answer s of `size(v)` is one of 1 to n
module _ {v : ℤ} (f : SFits w32 v) (n : ℕ) {r : Bool} {s : ℕ} where
  pub line_counted : r ≡ names_line n (to_z w32 (of_z w32 v)) → r ≡ true → s ≡ size (to_z w32 (of_z w32 v)) → (1 ≤ s) × (s ≤ n)
  line_counted e t h = rw (own_told size f h) (line_size n v (own_asked (names_line n) f e t))
