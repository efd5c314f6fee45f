-- What the proofs of `record_reader` go by.
mod Along
