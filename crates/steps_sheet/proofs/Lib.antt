-- The laws of a steps sheet, and its theorems, which `Theorems` has by name.
--     Rows       which step a row is
--     Text       which steps a text says, and what its heading is
--     Few        how many steps a text can say
--     Decoding   the loop over the rows
pub mod Rows
pub mod Text
pub mod Few
pub mod Decoding
pub mod Theorems
