-- What the proofs of `numerals` go by.
mod Steps
mod Signs
