-- `ValueLaws` has the laws that readers go by: the kinds by number and both round trips over C's values. `Columns` serves the proofs.
pub mod ValueLaws
pub mod Columns
