-- Laws of stage 2 on one record. `Places` has the checks by column and number, `Rising` that they stand in order, `Going` what the
-- loop of `judge_record` keeps, `Asked` what a record that keeps them says of each of its numbers.
pub mod Places
pub mod Rising
pub mod Going
pub mod Asked
