-- Demand 3 of every fresh record. `DemandThree` has the theorem, `Warden` what follows for people, and `Leaving` that everybody can
-- leave; the others prove their parts.
--     Cleared, Serial   the record with its doors cleared, and one card served at a free door
--     Cards, Decided    accounts of one door of a real run: the persons of its cards, and their decisions
--     Runs              a whole run
pub mod Cleared
pub mod Serial
pub mod Cards
pub mod Runs
pub mod Decided
pub mod DemandThree
pub mod Warden
pub mod Leaving
