-- Laws of the crate's definitions. `SumLaws`, `FirstLaws`, `MeasureLaws`, `Sounding` and `Ground` have those that other crates and
-- readers go by; the other files serve the proofs.
pub mod SumLaws
pub mod FirstLaws
pub mod MeasureLaws
pub mod Ground
pub mod Bounds
pub mod Stepping
pub mod Walking
pub mod Sounding
