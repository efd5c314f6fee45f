-- What the contracts of `loops` cite: stage 5 (RULES 6.8).
pub mod Loops
pub mod Scanning
