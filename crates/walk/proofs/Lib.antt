-- Laws of the walk; `Room` has those that callers go by, of the need and of how many words and areas a file can have.
pub mod Walking
pub mod Judging
pub mod InOrder
pub mod Dues
pub mod Stores
pub mod Filling
pub mod Tabling
pub mod Passing
pub mod Room
