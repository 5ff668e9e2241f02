-- `Theorems` has the crate's theorems by name. Below it: `Steps`, the definitions of specs/Cut.antt a byte at a time; `Written`,
-- the way from the grammar to the cutters, and `Found`, the way back; `Faults`, where a row breaks; `Unique`, that no text has
-- two readings; `Reading`, the rows of a sheet one at a time; `Holding`, what lies in the cells of a row;
-- `Exact`, one row of a sheet; `Whole`, all of it; `Fields`, where a field breaks.
pub mod Theorems
pub mod Steps
pub mod Written
pub mod Found
pub mod Faults
pub mod Unique
pub mod Reading
pub mod Holding
pub mod Exact
pub mod Whole
pub mod Fields
