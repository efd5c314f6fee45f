-- `Sheets`: the smallest sheet and its neighbours, and what is to be answered to each (RULES 11).
pub mod Sheets
