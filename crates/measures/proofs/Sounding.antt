-- A line whose coordinates are well formed and permitted: what the code measures without a test is its measure, and that is small.
-- Assumes nothing.
use mathlib.Core.List.{List}
use mathlib.Core.Path.{◌≡◌, refl, ap}
use Prim.Native.Nat.{ℕ, ◌<◌}
use native.Mathlib.Omega.{arith}
use lib.IntN.{ℤ}
use Rattle.glances.proofs.Remainders.{sum_said}
use Rattle.measures.specs.Measures.{line_measure}
use Rattle.measures.specs.Points.{coordinate_in, pair_by, point_by, point_at, point_count, points_by, measure_by, measure_in}
use Rattle.measures.specs.Sound.{SoundAt, Sound, added_up}
use Rattle.measures.specs.Walks.{Small}
use Rattle.measures.proofs.Bounds.{small_le}
use Rattle.measures.proofs.FirstLaws.{first_ext}
use Rattle.measures.proofs.Walking.{along_near, begin_near, measure_is, count_le}

-- a coordinate is the number that its bytes add up to
sound_is : (s : List ℕ) (c : ℕ) {z : ℤ} → SoundAt s c z → added_up s c ≡ coordinate_in s c
unfolding added_up coordinate_in
sound_is s c h = rw (sum_said s c 5 h.value h.said, h.said)

sound_few : {s : List ℕ} {c : ℕ} {z : ℤ} → SoundAt s c z → Small 10000 z
sound_few h = rw h.is (record { small = h.permitted })

module _ (file : List ℕ) (r : ℕ) (s : Sound file r) where
  point_is : (i : ℕ) → i < point_count file r → point_by added_up file r i ≡ point_at file r i
  unfolding point_by pair_by
  point_is i l = rw (sound_is _ _ (s.east i l), sound_is _ _ (s.north i l))

  -- THE CODE'S NUMBER IS THE LINE'S MEASURE
  pub sound_measure : measure_by added_up file r ≡ measure_in file r
  unfolding measure_by points_by
  sound_measure = ap line_measure (first_ext (point_by added_up file r) (point_at file r) (point_count file r) point_is)

  -- and at most 999,999 steps of 2 * 10^8
  pub sound_small : Small 200000000000000 (measure_in file r)
  sound_small =
      let n = count_le file r in
      rw (← measure_is coordinate_in file r refl)
      (small_le 200000000000000
      (along_near (point_at file r) (point_count file r) (λ i l. (sound_few (s.east i l), sound_few (s.north i l))) (begin_near 10000)).sum (omega arith))
