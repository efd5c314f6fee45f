-- Laws of the crate's definitions. `RecordLaws` has those that other crates and readers go by; the other files serve it and the proofs.
pub mod RecordLaws
pub mod RoundTrips
pub mod Layouts
pub mod Stores
pub mod Numbers
pub mod Named
pub mod Codes
