-- What the contracts of `dues` cite: RULES 9.10 (Due).
pub mod Dues
