-- `Bare`: what the row cutter's short way looks for.
pub mod Bare
