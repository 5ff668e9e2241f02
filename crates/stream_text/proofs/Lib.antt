-- What is proved of the stream of a run: `Sheets` which stream two sheets have, `Accepted` that the record of an
-- accepted sheet is fresh, `Fit` that every event has a line, `Collecting` what a
-- collector makes of it, `Lengths` how long it is, `Rows` the loop over the rows, `Examples` the stream of the run that 01 prints,
-- `Theorems` the theorems by name.
pub mod Sheets
pub mod Accepted
pub mod Fit
pub mod Collecting
pub mod Lengths
pub mod Rows
pub mod Examples
pub mod Theorems
