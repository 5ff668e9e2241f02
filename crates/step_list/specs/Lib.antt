-- `Room`: which lists are long enough for a run.
pub mod Room
