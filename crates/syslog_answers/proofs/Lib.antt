-- `Answers` proves demand 1 of syslog lines and streams, `Unique` that their answers are unique.
pub mod Answers
pub mod Unique
