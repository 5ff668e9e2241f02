-- What is told of a text, of a way out and of a question, by the paper's numbers.
pub mod Told
