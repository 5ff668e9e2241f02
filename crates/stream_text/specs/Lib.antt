-- The syslog stream of a run: `Stream` the events of two sheets, their stream and what a collector makes of it, `Claims` what the
-- theorems say, `Examples` the stream of the run that 01 prints. `Rows` has the rows of a run in lent lists; of the public promise it
-- says nothing.
pub mod Stream
pub mod Rows
pub mod Claims
pub mod Examples
