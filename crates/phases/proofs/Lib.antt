-- The theorems about the steps and the table.
--     Entries    the table of a hundred entries says what the steps' own rules say
--     Packed     the code's table, a number for each phase, has those entries
--     Steps      each step is the one that its number names, and none but `card` names a person
pub mod Entries
mod Packed
pub mod Steps
