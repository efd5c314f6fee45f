-- What the contract of `streams` cites.
pub mod Reading
