-- Demand 1 of syslog lines and streams (`Answers`), and that their answers are unique (`Unique`).
pub mod Answers
pub mod Unique
