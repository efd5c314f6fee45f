-- Laws of stage 3; `Leading` has that a records total leads on to the next record of its rank.
pub mod Summing
pub mod Leading
