-- What is proved of the crate: `Asked` says what is told of a number that was asked for.
mod Asked
