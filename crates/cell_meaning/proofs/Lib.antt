-- `Theorems` has the crate's theorems by name. Below it: `Saying`, words and numbers; `Contents`, what a cell says by its field;
-- `Naming`, a field's place among some words.
pub mod Theorems
pub mod Saying
pub mod Contents
pub mod Naming
