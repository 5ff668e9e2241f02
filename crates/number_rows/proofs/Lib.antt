-- What is proved of the crate: `Loop` is the loop that writes a row of numbers.
mod Loop
