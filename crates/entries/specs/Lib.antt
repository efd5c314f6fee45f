-- What the contracts of `entries` cite: the entries of loops and areas (RULES 2.6, 4.7) and their measures (RULES 7.2, 7.3).
pub mod Entries
pub mod Loops
pub mod Keeping
