-- The phases, the ten steps, the table of which step a phase allows, and the answers, as paper 01 writes them.
pub mod Phase
pub mod Kinds
pub mod Table
pub mod Answers
