-- Who has a grant, and why a card is denied, as paper 01 writes them.
pub mod Grants
pub mod Reasons
