-- `Attend`: what a row asks for, what is printed of it, and what becomes of the record. `Live`: rows that come one after the other.
pub mod Attend
pub mod Live
pub mod IsPanel
