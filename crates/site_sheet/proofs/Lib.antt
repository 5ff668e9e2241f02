-- The theorems of a site sheet, which `Theorems` has by name.
--     GivenBack  what is said of a sheet is what the rules give
--     Only       what the rules give is what is said
--     Same       the same rows have the same answer
pub mod GivenBack
pub mod Only
pub mod Same
pub mod Theorems
