-- `Sole`: that no person has two grants, the fact and the test. `Marks`: the marks of a walk over the doors, and what it tells.
pub mod Sole
pub mod Marks
