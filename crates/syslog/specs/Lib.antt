-- What the promises of `syslog_write`, `syslog_read` and `stream_rows` mean: `Rfc` the grammar of RFC 5424 and RFC 6587, `Line` our
-- lines, frames and streams, `Lent` a line in a lent list, `Reading` what bytes read as, `Rows` what `read-events` prints, `Numbers` the
-- paper's numbers, `Claims` what the theorems say, `Examples` lines byte for byte and small texts that the RFCs allow and don't. `Guess`
-- is how the reader finds the event to compare with; no public promise cites it.
pub mod Rfc
pub mod Line
pub mod Numbers
pub mod Lent
pub mod Reading
pub mod Rows
pub mod Claims
pub mod Guess
pub mod Examples
