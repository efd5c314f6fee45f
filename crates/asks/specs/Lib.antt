-- What the contracts of `asks` cite: RULES 5 and the tables of RULES 4, kind by kind.
pub mod Asks
