-- Whether the fields of one door fit its phase, as paper 01 writes it.
pub mod Fits
