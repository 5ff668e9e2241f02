-- What is asked before each question is answered.
pub mod Questioned
