-- Laws of stage 4. `Scans` has rows of slots and the scan for a repeated entry, `NodeLaws` the checks of an N's slots, `LineLaws` those of
-- lines, points and loop records, `StageLaws` the records that are passed, `InOrder` that the rules stand in the order of RULES 6.1, `Holds`
-- what a record that keeps them says; `Numbers` has what an answer says of a number that was passed on, and what `==` says.
pub mod Numbers
pub mod Scans
pub mod NodeLaws
pub mod LineLaws
pub mod StageLaws
pub mod InOrder
pub mod Holds
