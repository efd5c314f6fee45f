-- What the contracts of `record_writer` cite of its own: RULES 9.5 (the writer's refusals).
pub mod Refusals
