-- What the contracts of `rules` cite: RULES 6.4 (Stage 2).
pub mod Checks
