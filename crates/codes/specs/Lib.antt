-- What the contracts of `codes` cite: RULES 3.6 (Code).
pub mod Code
