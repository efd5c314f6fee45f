-- Laws of entries and loops. `Owning` has that an area's records are its loop records in the walk, `Rows` what the slots of a row say of
-- its entries, `Keeping` that of well formed lines the code keeps the measures; `Slots` and `Summing` serve the proofs.
pub mod Owning
pub mod Rows
pub mod Slots
pub mod Keeping
pub mod Summing
