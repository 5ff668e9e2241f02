-- `Lent`: the tables that are lent, as a plan. `Marks`: the marks of rules 8 and 10, and what the code computes of rule 10 from them.
pub mod Lent
pub mod Marks
