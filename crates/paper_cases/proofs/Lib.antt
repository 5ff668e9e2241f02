-- `TwelveCases` proves the paper's cases, and the run that it prints. The others:
--     Example    what is recorded on that run, and why it is served in that order
pub mod Example
pub mod TwelveCases
