-- What the promises of the crate mean: `Text` numbers and rows as text, `Wrote` a text at a place of a lent list, `Printed` a text
-- in a lent list that may be too short for it.
pub mod Text
pub mod Wrote
pub mod Printed
pub mod Examples
