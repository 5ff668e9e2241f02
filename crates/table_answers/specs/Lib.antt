-- Demand 1 of lists, tables, phases and one door (`Answers`), and that their answers are unique (`Unique`).
pub mod Answers
pub mod Unique
