-- Laws of stage 6. `Marked` has the slots of an area and the marks that spare a search of them, `StageLaws` that a line can be counted,
-- `InOrder` that the rules stand in the order of RULES 6.1, `Holds` what a record that keeps them says.
pub mod Marked
pub mod StageLaws
pub mod InOrder
pub mod Holds
