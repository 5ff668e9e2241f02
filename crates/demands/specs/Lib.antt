-- The demands, as paper 01 and the letter write them, for `proofs/Demands.antt`: `DemandOne` and `DemandTwo` say the first two (the
-- third is said in crate `card_by_card`, and `Bytes` says it of what is printed), `Unique` that answers are unique, and `Rows` both of rows that come. The parts of
-- demand 1 and of unique answers that stand below a site sheet are in the crates `sheet_answers`, `syslog_answers`, `table_answers` and
-- `record_answers`, and the paper's twelve cases and the run that it prints in `paper_cases`.
pub mod Rows
pub mod DemandOne
pub mod DemandTwo
pub mod Unique
pub mod Bytes
