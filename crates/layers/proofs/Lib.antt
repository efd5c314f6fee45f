-- Laws of names and layers. `Answers` has what the answers of `names_line` and `permitted::size` say, `Passing` how the layer goes on from record to
-- record, `Walks` how the walk does, `Stages` a stage's loop over all records, `Rows` that a row of the table is what its H says,
-- `Sections` what the lines and the areas have in common, `Laid` that the words of a layer are its records.
pub mod Answers
pub mod Passing
pub mod Walks
pub mod Stages
pub mod Rows
pub mod Sections
pub mod Laid
