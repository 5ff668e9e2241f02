-- Demand 1 of syslog lines and streams: each field is a public function of the crates `syslog`, `syslog_write`, `syslog_read` or
-- `stream_rows`, or one of the lists of `stream_lists`, and says what follows of the definition that its promise cites.
use Rattle.std.specs.Prelude.{ℕ, ◌+◌, ◌≤◌, ◌<◌, ◌≡◌, Bool, List, ◌++◌, ◌⊎◌, length, drop, replicate, Result, Ok, Option, Some, None, Err}
use Rattle.numbers.specs.Numbers.{done_no, no_such_no, too_short_no, not_aline_no}
use Rattle.numbers.specs.Telling.{done, ◌unless◌then◌, NumberBy}
use Rattle.tables.specs.Below.{Tells}
use Rattle.text.specs.Wrote.{Wrote}
use Rattle.text.specs.Printed.{printed_of}
use Rattle.syslog.specs.declared.LineEvent.{LineEvent}
use Rattle.syslog.specs.declared.Unwritten.{Unwritten}
use Rattle.syslog.specs.declared.Unwritten.TheVariants as unwritten
use Rattle.syslog.specs.declared.NotOurs.{NotOurs}
use Rattle.syslog.specs.Line.{line_of, framed_of, Fits, fits_line}
use Rattle.syslog.specs.Numbers.{written_no, line_read_no, frame_read_no, unwritten_no, short_line}
use Rattle.findings.specs.Told.{short_no}
use Rattle.syslog.specs.Lent.{Writes}
use Rattle.syslog.specs.Reading.{not_ours, LineIs, ReadsLine, FrameAt, ReadsFrame, StreamSays}
use Rattle.syslog.specs.Claims.{OnlyLinesRead, OnlyFramesRead}
use Rattle.syslog.specs.Rows.{most_stream, stream_rows, long_rows, PrintsEvents}
use Rattle.stream_lists.specs.{most_rows_text}
use Rattle.sheet_answers.specs.Answers.{TextWritten, TextTells}
use Rattle.findings.specs.declared.TooShort.{TooShort}

-- ---- crate `syslog`

-- the number of each case
pub data WrittenHas : Result ℕ Unwritten → ℕ → Type 0 where
  a_text : (n : ℕ) → WrittenHas (Ok n) done_no
  unfit : WrittenHas (Err unwritten.Unfit) no_such_no
  no_room : WrittenHas (Err unwritten.TooShort) too_short_no

pub data LineHas : Result LineEvent NotOurs → ℕ → Type 0 where
  a_line : (e : LineEvent) → LineHas (Ok e) done_no
  no_line : LineHas (Err not_ours) not_aline_no

pub data FrameHas : Result (Option (LineEvent × ℕ)) NotOurs → ℕ → Type 0 where
  a_frame : (e : LineEvent) (next : ℕ) → FrameHas (Ok (Some (e, next))) done_no
  at_end : FrameHas (Ok None) done_no
  no_frame : FrameHas (Err not_ours) not_aline_no

-- ---- crate `syslog_write`

-- "writing, 11 for a door or person over 63 or a reason that doesn't fit the event, then 13 if the lent buffer is too short"; C-12, "11 for
-- a held door that is over 63 or doesn't fit the reason"; with 0 the text stands in front, its length told, and the rest is unaltered
pub record WriteTells (e : LineEvent) (text out : List ℕ) (told : Result ℕ Unwritten) (after : List ℕ) : Type 0 where
  pub number : NumberBy (no_such_no unless Fits e then too_short_no unless length text ≤ length out then done) (written_no told)
  pub a_length : written_no told ≡ done_no → told ≡ Ok (length text)
  pub in_front : written_no told ≡ done_no → after ≡ text ++ drop (length text) out
  pub unaltered : (written_no told ≡ done_no → ⊥) → after ≡ out

-- ---- crate `syslog_read`

-- the bytes are the line of some event
abbrev pub SomeLine : List ℕ → Type 0
SomeLine text = (e : LineEvent) × LineIs text e

-- and the frame of some event begins at a place of a stream
abbrev pub SomeFrame : List ℕ → ℕ → Type 0
SomeFrame s at = (e : LineEvent) × (next : ℕ) × FrameAt s at e next

-- "reading, 15 if the bytes aren't such a line": there is something to tell of every list of bytes, and what is told is an event exactly
-- when they are its line
pub record LineReadTells (text : List ℕ) : Type 0 where
  pub something : (told : Result LineEvent NotOurs) × ReadsLine text told
  pub number : (told : Result LineEvent NotOurs) → ReadsLine text told → NumberBy (not_aline_no unless SomeLine text then done) (line_read_no told)
  pub only : (told : Result LineEvent NotOurs) → ReadsLine text told → OnlyLinesRead text told

-- the same of a place of a stream, where a frame begins, or the stream ends
pub record FrameReadTells (s : List ℕ) (at : ℕ) : Type 0 where
  pub something : (told : Result (Option (LineEvent × ℕ)) NotOurs) × ReadsFrame s at told
  pub number : (told : Result (Option (LineEvent × ℕ)) NotOurs) → ReadsFrame s at told
      → NumberBy (not_aline_no unless (at ≡ length s) ⊎ SomeFrame s at then done) (frame_read_no told)
  pub only : (told : Result (Option (LineEvent × ℕ)) NotOurs) → ReadsFrame s at told → OnlyFramesRead s at told
  -- the place behind a frame lies behind the one that is asked for, and in the stream
  pub onward : (e : LineEvent) (next : ℕ) → ReadsFrame s at (Ok (Some (e, next))) → (at < next) × (next ≤ length s)

-- ---- crates `stream_rows` and `stream_lists`

-- the text of `read-events`: the rows of what a stream of at most 524,288 bytes says; of a longer one the refusal alone
pub data RowsText (stream text : List ℕ) : Type 0 where
  rows : (es : List LineEvent) (whole : Bool) → length stream ≤ most_stream → StreamSays stream 0 es whole → text ≡ stream_rows es whole
      → RowsText stream text
  too_long : most_stream < length stream → text ≡ long_rows → RowsText stream text

-- every stream has its text, which is told by its length and stands in front; 13 if the list is shorter, and then it is as it was
pub record ReadEventsTells (stream out : List ℕ) (told : Result ℕ TooShort) (after : List ℕ) : Type 0 where
  pub some_text : (text : List ℕ) × RowsText stream text
  pub tells : (text : List ℕ) → RowsText stream text → TextTells text out told after

-- ---- all of them

pub record SyslogAnswers : Type 0 where
  pub line_written_number : (w : Result ℕ Unwritten) → WrittenHas w (written_no w)
  pub line_read_number : (told : Result LineEvent NotOurs) → LineHas told (line_read_no told)
  pub frame_read_number : (told : Result (Option (LineEvent × ℕ)) NotOurs) → FrameHas told (frame_read_no told)
  -- a list that is too short keeps its number as a refusal of writing
  pub unwritten_from : (short : TooShort) → unwritten_no (short_line short) ≡ short_no short
  pub put_line : (list : List ℕ) (at : ℕ) (e : LineEvent) (after : List ℕ) (next : ℕ) → Wrote list at (line_of e) after next
      → TextWritten list at (line_of e) after next
  pub put_frame : (list : List ℕ) (at : ℕ) (e : LineEvent) (after : List ℕ) (next : ℕ) → Wrote list at (framed_of e) after next
      → TextWritten list at (framed_of e) after next
  -- an event has a line exactly when its door and its person are at most 63, its reason fits it, and its held door the reason
  pub fits_line_lem : (e : LineEvent) → Tells (fits_line e) (Fits e)
  pub write_line : (e : LineEvent) (out : List ℕ) (told : Result ℕ Unwritten) (after : List ℕ) → Writes e (line_of e) out told after
      → WriteTells e (line_of e) out told after
  pub write_frame : (e : LineEvent) (out : List ℕ) (told : Result ℕ Unwritten) (after : List ℕ) → Writes e (framed_of e) out told after
      → WriteTells e (framed_of e) out told after
  pub read_line : (text : List ℕ) → LineReadTells text
  pub read_frame : (s : List ℕ) (at : ℕ) → FrameReadTells s at
  pub read_events_text : (stream out : List ℕ) (told : Result ℕ TooShort) (after : List ℕ) → PrintsEvents stream out told after → ReadEventsTells stream out told after
  -- the list for a stream has a byte more than a stream may have, so that a longer one is seen to be longer
  pub blank_stream : (s : List ℕ) → length s ≤ most_stream → length s < length {A = ℕ} (replicate (most_stream + 1) 0)
  -- every text of `read-events` is printed whole in the list that is there for it
  pub blank_rows_text : (stream text : List ℕ) → RowsText stream text → printed_of text (replicate most_rows_text 0) ≡ Ok (length text)
