-- Laws of verdicts, for every stage.
pub mod Parts
pub mod Orders
pub mod Numbers
pub mod Holding
