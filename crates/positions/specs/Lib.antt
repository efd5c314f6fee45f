-- What the contracts of `positions` cite: RULES 10 (Positions).
pub mod Degrees
