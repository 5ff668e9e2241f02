-- Demand 1 of sheets and texts (`Answers`), and that their answers are unique (`Unique`).
pub mod Answers
pub mod Unique
