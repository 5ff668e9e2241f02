-- `Bare`: a row of three bare fields, cut at its commas.
pub mod Bare
