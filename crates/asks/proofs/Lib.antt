-- Where the asks of a record stand in their list.
pub mod Slots
