-- The laws of the rows of a site sheet, and their theorems, which `Theorems` has by name.
--     Fits       the tests of a row as facts
--     Bounds     a row that is taken leaves the counts in their ranges
--     Loop       the loop over the rows
--     Said       what lines say with one more behind them
--     Held       the tables hold what the lines say
--     Obeyed     the rules said of the lines are those of the tables that hold them
--     Outcome    what is wrong with a line, or nothing
--     Rows       which line a row is
--     Text       which lines a text says
--     Outcomes   the lines read into the tables, up to the first that is wrong
--     Told       what the code tells of the rows that were read
pub mod Fits
pub mod Bounds
pub mod Loop
pub mod Said
pub mod Held
pub mod Obeyed
pub mod Outcome
pub mod Rows
pub mod Text
pub mod Outcomes
pub mod Told
pub mod Theorems
