-- What the contracts of `measures` cite: RULES 7 (Measures).
pub mod Sum
pub mod Measures
pub mod Points
pub mod Walks
pub mod Sound
pub mod Ground
