-- What the proofs of `writers` go by; `Answers` serves the writer of codes too.
pub mod Answers
mod Filling
