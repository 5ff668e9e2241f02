-- The theorems about the machines.
--     Algebra      sets that a door comes to or goes from
--     Kept         the events of each machine keep its invariants
--     Refine       each machine refines the one before
--     Safety       what follows from the axioms: nobody is blocked
pub mod Algebra
pub mod Kept
pub mod Refine
pub mod Safety
