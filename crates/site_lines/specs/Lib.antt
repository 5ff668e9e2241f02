-- The rows of a site sheet, as paper 01 writes them: `Line` is what a row says, `Fault` what is wrong with it, `Draft` how it goes
-- into the tables, `Lent` how the code tells that, `Taking` how the rows are taken from the top, `Says` what the rows say of the site,
-- and `Gives` when a sheet is accepted and when each number is given.
pub mod Line
pub mod Fault
pub mod Draft
pub mod Lent
pub mod Taking
pub mod Says
pub mod Gives
