-- `Marks`: the marks of rules 8 and 10.
pub mod Marks
