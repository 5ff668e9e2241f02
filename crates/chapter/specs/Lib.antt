-- What 001, "A Location Access Controller", claims of its machines, the reading of a record as a state, and the panel among them.
pub mod Whole
pub mod Reading
pub mod Panel
