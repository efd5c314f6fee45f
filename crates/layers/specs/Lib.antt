-- What the contracts of `layers` cite: what a number names, only in its own layer (RULES 2.7, 6.7).
pub mod Naming
pub mod Passing
pub mod Standing
