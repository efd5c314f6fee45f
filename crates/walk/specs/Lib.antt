-- What the contracts of `walk` cite: RULES 2 (The file), 6.3 to 6.5 (stages 1 and 2, refusal 9), 8 (Room and table) and 9.3 (Need).
pub mod Row
pub mod States
pub mod Stages
pub mod Table
pub mod Storing
pub mod Quiet
