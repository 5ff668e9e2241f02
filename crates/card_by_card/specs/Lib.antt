-- Demand 3, as paper 01 and the letter write it: `Serving` says what a run records and how that is served, `Served` what holds of
-- it, and `Warden` what follows for people; `Leaving` says that everybody can leave.
pub mod Serving
pub mod Served
pub mod Warden
pub mod Leaving
