-- `Answers` is the theorem of demand 2, that the answer is the least broken rule and the only one that fits; `NoGroundLost` the theorem of
-- demand 3 (RULES 13.2, 13.3); `Measures` says which measure is which area's, `Pairs` which sums are which layer's; `Room` how much a caller
-- has to lend. `Growing`, `Loading`, `Calling` and `Adding` serve the proofs.
pub mod Growing
pub mod Loading
pub mod Adding
pub mod Calling
pub mod Answers
pub mod NoGroundLost
pub mod Measures
pub mod Pairs
pub mod Room
