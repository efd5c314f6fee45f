-- How the code walks: a sum and the point where it stands. It serves the code and is no part of a promise. Assumes nothing.
use Rattle.std.specs.Prelude.{ℕ, zero, suc, ◌≤◌, ℤ, pos, nat_abs, ◌+ℤ◌}
use Rattle.measures.specs.Measures.{Point, cross}
use Rattle.measures.specs.declared.Walk.{Walk}

-- a whole number no larger than m, either way
pub record Small (m : ℕ) (z : ℤ) : Type 0 where
  pub small : nat_abs z ≤ m

-- where the walk stands
abbrev pub where_at : Walk → Point
where_at w = record { x = w.x; y = w.y }

-- the walk, gone on to a point
abbrev pub step_to : Walk → Point → Walk
step_to w q = record { sum = w.sum +ℤ cross (where_at w) q; x = q.x; y = q.y }

-- the walk along f 0, f 1, .. f (n - 1)
unfoldable pub walk_along : Walk → (ℕ → Point) → ℕ → Walk
walk_along w f zero = w
walk_along w f (suc n) = step_to (walk_along w f n) (f n)

-- nowhere yet: the corner (0,0), from where a first step adds 0
abbrev pub begin : Walk
begin = record { sum = pos 0; x = pos 0; y = pos 0 }

-- a walk whose sum is no larger than m, and its coordinates than b, either way
pub record Near (b m : ℕ) (w : Walk) : Type 0 where
  pub sum : Small m w.sum
  pub x : Small b w.x
  pub y : Small b w.y

-- what five bytes come to at most, read by their remainders
abbrev pub far : ℕ
far = 166665
