-- Laws of permitted values. `Signs` has what an answer says of the number that was asked about, `Bounds` what a permitted value is at most,
-- `Matches` what a test on numbers says of the definitions' tests.
pub mod Signs
pub mod Bounds
pub mod Matches
