-- What the contracts of `permitted` cite: RULES 5 (Permitted values).
pub mod Permitted
