-- The theorems, which `Theorems` states by name.
--     Site         the tables of a sound record obey the axioms; everybody is led outside
--     Invariants   every invariant holds of every sound record's reading
--     Turn         what the reading says of a door that was put anew
--     Steps        each step of the panel is an event of the fourth refinement
--     Stands       which event a step stands for; no door is stuck; the fresh record; what a decision tells
--     Panel        a run of the panel is, row by row, a run of each machine
pub mod Site
pub mod Invariants
pub mod Turn
pub mod Steps
pub mod Stands
pub mod Panel
pub mod Theorems
