-- Laws of a glance and of a sum of remainders. Crates above go by `sure_says`, `unsure_says`, `zero_alone`, `sum_said` and `five_small`.
pub mod AtGlance
pub mod Remainders
