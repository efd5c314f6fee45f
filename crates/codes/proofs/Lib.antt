-- Laws of code fields. `CodeLaws` has those that other crates and readers go by; `Steps` serves the proofs of this crate.
pub mod CodeLaws
mod Steps
