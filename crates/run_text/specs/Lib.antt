-- What the promises of the crate `run` mean: `Printed` the two texts, `Examples` the run that 01 prints.
pub mod Printed
pub mod Examples
