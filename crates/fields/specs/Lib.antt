-- The fields of a record: RULES 3, a file for each notion.
pub mod Place
pub mod Number
pub mod Spelling
pub mod Text
pub mod Answer
pub mod Ending
