-- Laws of the crate's definitions. `FieldLaws` has those that other crates and readers go by; the other files serve it and the proofs of
-- this crate and of those that read and write fields.
pub mod FieldLaws
pub mod Cases
pub mod FromRight
pub mod Places
pub mod Answers
pub mod Columns
pub mod Signs
pub mod Range
pub mod Spelled
pub mod Unspelled
