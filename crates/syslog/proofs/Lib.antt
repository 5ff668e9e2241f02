-- What is proved of the crate: `Digits` decimal numbers, digit by digit; `Fit` the test whether an event fits; `Lengths` how long lines
-- and frames are; `Guessing` that the guess finds the event of a line; `Finding` what bytes read as, by the guess; `Held` that a DENY line
-- with reason 3 has its held door, and no other line; `Streams` frame after frame; `Loops` what the reader finds in a text; `Rowing` and
-- `RowLengths` the rows of a stream; `Message` that lines and frames are the RFCs'; `Written` what was written; `Told` the
-- numbers of what is told; `Theorems` the theorems by name; `Examples` lines byte for byte.
pub mod Digits
pub mod Fit
pub mod Lengths
pub mod Guessing
pub mod Finding
pub mod Held
pub mod Streams
pub mod Loops
pub mod Rowing
pub mod RowLengths
pub mod Message
pub mod Written
pub mod Told
pub mod Theorems
pub mod Examples
