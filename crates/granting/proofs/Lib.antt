-- `Granting`: what the search for a grant tells.
pub mod Granting
