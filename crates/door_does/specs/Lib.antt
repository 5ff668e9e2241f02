-- What a step does to its door, as paper 01 writes it.
pub mod Does
