-- `Fields`: what the test of one door's fields tells.
pub mod Fields
