-- What is proved of the crate: `Writing` texts one behind the other in a list, `Decimal` numbers and `Rows` rows and
-- how long they are, `Printing` a text that is measured and then written.
pub mod Writing
pub mod Decimal
pub mod Rows
pub mod Printing
pub mod Examples
