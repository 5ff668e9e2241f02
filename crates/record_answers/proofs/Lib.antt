-- `Sound`, `Deeds` and `Record` prove demand 1 of grants and soundness, of a step on lent lists and of the record, `Enums` of enum answers by the papers' numbers and values, and `Unique` that answers
-- are unique.
pub mod Sound
pub mod Record
pub mod Deeds
pub mod Enums
pub mod Unique
