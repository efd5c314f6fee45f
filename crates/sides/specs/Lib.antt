-- What the contracts of `sides` cite: stage 6 (RULES 6.9).
pub mod Sides
pub mod Marking
