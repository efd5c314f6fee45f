-- What the contracts of `totals` cite: RULES 6.6 (Stage 3); and what a records total says of the file.
pub mod Totals
pub mod Adding
pub mod Leads
