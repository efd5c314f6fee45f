-- What the contracts of `judge` cite: the order of judgement (RULES 6.1) and what the calls answer and leave (RULES 8, 9.1, 9.2, 9.11).
-- `Measuring` serves the code.
pub mod Rulebook
pub mod Outcomes
pub mod Measuring
