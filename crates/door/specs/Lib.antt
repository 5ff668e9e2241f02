-- One door, as paper 01 writes it: what is kept of it.
pub mod Door
