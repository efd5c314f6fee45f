-- Laws of stage 5. `Repeats` has the marks that spare a scan for a repeated entry, `SlotLaws` the checks of a loop record's slots and of its
-- loop's way round, `StageLaws` what the loop over all records carries along, `InOrder` that the rules stand in the order of RULES 6.1,
-- `Holds` what a record that keeps them says.
pub mod Repeats
pub mod SlotLaws
pub mod StageLaws
pub mod InOrder
pub mod Holds
