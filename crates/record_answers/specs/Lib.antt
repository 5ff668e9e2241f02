-- Demand 1 of the record (`Answers`), of a step on lent lists (`Deeds`), of the one record that is lent (`Lending`) and of enum answers (`Enums`), and that answers are unique (`Unique`).
pub mod Lending
pub mod Deeds
pub mod Answers
pub mod Enums
pub mod Unique
