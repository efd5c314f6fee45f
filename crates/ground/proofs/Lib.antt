-- Laws of the ground. `Standing` has that no ground is lost in a layer that keeps rules 11, 13, 17 and 18, `Grounds` that a file that passes
-- keeps them; `Limits` that all sums are small; `Kept` what the stages say of each line and each area, `Soundness` what stage 2 says of
-- each coordinate, with the theorem that every point is stated.
pub mod Standing
pub mod Soundness
pub mod Kept
pub mod Grounds
pub mod Limits
