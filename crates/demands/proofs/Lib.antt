-- The theorems. `Demands` is the file to read: it has each by its name. The others prove their parts.
--     DemandOne, StepsSheet, Texts   demand 1 of a site sheet, of a steps sheet, and of what the programs print
--     Rows                           demand 1 of rows that are answered as they come, and that their answers are unique
--     DemandTwo                      demand 2
--     Unique                         answers are unique
--     Bytes                          demand 3 down to the bytes
pub mod Unique
pub mod StepsSheet
pub mod DemandOne
pub mod Texts
pub mod Rows
pub mod DemandTwo
pub mod Bytes
pub mod Demands
