-- What the contracts of `report` cite: `Texts` has the text of every input.
pub mod Texts
