-- `Judged` has the theorems: how the stages and the reader go by the kind that is told. `Told` has what is told of which record.
pub mod Told
pub mod Judged
