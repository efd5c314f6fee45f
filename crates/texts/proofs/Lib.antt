-- What the proofs of `texts` go by.
mod TextSteps
