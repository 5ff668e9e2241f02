-- What a run tells: `Lines` its steps with their replies, `Events` the events and the spell of a card at each door, both from the
-- lines alone, `Told` what holds of them in the record, `Open` which grants are open by the events alone, and `Burning` how long a light
-- burns by the lines alone.
pub mod Lines
pub mod Events
pub mod Told
pub mod Open
pub mod Burning
