-- `Tables` and `Doors` prove demand 1 of lists and tables and of phases and one door, `Unique` that their answers are unique.
pub mod Tables
pub mod Doors
pub mod Unique
