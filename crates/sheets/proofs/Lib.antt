-- `Sheets`: that it is answered so. `Owed`: what is told of the records of S.
pub mod Sheets
pub mod Owed
