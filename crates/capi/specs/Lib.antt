-- What the contracts of `capi` cite beside the definitions of the crates below: a record's kinds by number, and the reader and the writer over them.
pub mod Values
