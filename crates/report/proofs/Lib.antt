-- `Accepted` says what `measure` prints of an accepted file, `Lent` that what the programs lend is enough for every file that they take, and
-- `Programs` that what they read settles what they print. The others serve the proofs.
pub mod Decimals
pub mod Signs
pub mod Areas
pub mod Answers
pub mod Programs
pub mod Lent
pub mod Accepted
