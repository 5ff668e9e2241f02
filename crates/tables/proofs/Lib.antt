-- The laws of `specs/Below.antt`, what chains over numbers answer, cases and chains of tests, the theorems of the rules and of the way
-- out, and lists of zeros.
pub mod Laws
pub mod Chains
pub mod Cases
pub mod Ways
pub mod Answers
pub mod WayOut
pub mod Zero
