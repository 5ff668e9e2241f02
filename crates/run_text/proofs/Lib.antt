-- What is proved of the crate: `Serving` the run of a steps sheet's steps, `Texts` the rows of the two
-- texts, written one behind the other, `Sheets` which text the two sheets have, `Fits` how long a text is at most.
pub mod Serving
pub mod Texts
pub mod Fits
pub mod Sheets
pub mod Examples
