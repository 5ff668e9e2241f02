-- What is proved of the events of a run. `Theorems` has the theorems by name, `Open` the one of the doors that denials name, and `Burning`
-- the one of the lights; `Doors` follows one step at its door, `Steps` one step of a record, and `Spells` a spell from its taken card on.
pub mod Doors
pub mod Steps
pub mod Spells
pub mod Theorems
pub mod Open
pub mod Burning
