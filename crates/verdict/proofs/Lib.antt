-- What is handed out with a verdict.
pub mod Told
