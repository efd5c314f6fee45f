-- What the proofs of `record_writer` go by.
mod Lines
