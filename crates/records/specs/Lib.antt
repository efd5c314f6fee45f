-- What the contracts of `records` cite: RULES 4 (Records), 9.4 (Reader), 9.5 (Writer) and 9.6 (View).
pub mod Layout
pub mod Reading
pub mod Writing
pub mod View
pub mod Columns
