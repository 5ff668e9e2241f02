-- `Sheets` and `Texts` prove demand 1 of sheets and of texts, `Unique` that their answers are unique.
pub mod Sheets
pub mod Texts
pub mod Unique
