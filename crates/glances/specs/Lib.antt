-- What the contracts of `glances` cite.
pub mod Glimpse
