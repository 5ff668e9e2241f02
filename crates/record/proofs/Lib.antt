-- The theorems about records.
--     Keep       which changes keep a record sound
--     Right      what each step puts at its door is right there; the reason of a denial
--     Tells      the computed test tells soundness exactly
--     Deeds      a step on lent lists
--     Laws       what a step does and what it leaves alone
--     Asked      the questions' answers by the paper's numbers and values
--     Ask        what the questions tell
--     Fresh      the fresh record is sound
pub mod Keep
pub mod Right
pub mod Tells
pub mod Deeds
pub mod Laws
pub mod Asked
pub mod Ask
pub mod Fresh
