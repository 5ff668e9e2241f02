-- `Numbers`: the papers' numbers, each under one name. `Told`: the number of what is told or refused. `Telling`: how the demands speak of
-- an answer.
pub mod Numbers
pub mod Told
pub mod Telling
