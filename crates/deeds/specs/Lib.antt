-- What a step does and tells, said of the lists alone.
pub mod Deeds
