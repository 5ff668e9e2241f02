-- What `read-events` prints of a stream. The issue of C-11: "header `answer,event,door,person,reason`, then `0,GRANT,3,1,0` for each
-- frame; at the first place that is no frame of ours `15,,0,0,0` and ends; a longer stream gives `1,,0,0,0` alone." That of C-12:
-- "`read-events` gains the column `held`", so that each of these has one number more.
use Rattle.std.specs.Prelude.{ℕ, ◌≤◌, ◌<◌, Bool, true, false, List, [], ◌∷◌, ◌++◌, length, Result}
use Rattle.numbers.specs.Numbers.{done_no, too_long_no, not_aline_no}
use Rattle.grammar.specs.Grammar.{comma}
use Rattle.text.specs.Text.{decimal, row_of_numbers}
use Rattle.text.specs.Wrote.{Wrote}
use Rattle.text.specs.Printed.{Prints}
use Rattle.syslog.specs.declared.LineEvent.{LineEvent}
use Rattle.syslog.specs.Line.{name_of}
use Rattle.syslog.specs.Reading.{StreamSays}
use Rattle.findings.specs.declared.TooShort.{TooShort}

-- "a stream of at most 524,288 bytes"
abbrev pub most_stream : ℕ
most_stream = 524288

-- `answer,event,door,person,reason,held`
abbrev pub events_header : List ℕ
events_header =
    97 ∷ 110 ∷ 115 ∷ 119 ∷ 101 ∷ 114 ∷ 44 ∷ 101 ∷ 118 ∷ 101 ∷ 110 ∷ 116 ∷ 44 ∷ 100 ∷ 111 ∷ 111 ∷ 114 ∷ 44 ∷ 112 ∷ 101 ∷ 114 ∷ 115 ∷ 111 ∷ 110 ∷ 44
    ∷ 114 ∷ 101 ∷ 97 ∷ 115 ∷ 111 ∷ 110 ∷ 44 ∷ 104 ∷ 101 ∷ 108 ∷ 100 ∷ 13 ∷ 10 ∷ []

-- a row: the answer, the MSGID, or nothing, and four numbers
abbrev pub row_with : ℕ → List ℕ → ℕ → ℕ → ℕ → ℕ → List ℕ
row_with answer name door person reason held =
    decimal answer ++ (comma ∷ (name ++ (comma ∷ row_of_numbers door (person ∷ reason ∷ held ∷ []))))

unfoldable pub event_row : LineEvent → List ℕ
event_row e = row_with done_no (name_of e.msgid) e.door e.person e.reason e.held

unfoldable pub refused_row : ℕ → List ℕ
refused_row number = row_with number [] 0 0 0 0

-- "for each frame"; then nothing where the stream ends, and "at the first place that is no frame of ours" `15,,0,0,0,0`
unfoldable pub event_rows : List LineEvent → Bool → List ℕ
event_rows [] true = []
event_rows [] false = refused_row not_aline_no
event_rows (e ∷ es) whole = event_row e ++ event_rows es whole

unfoldable pub stream_rows : List LineEvent → Bool → List ℕ
stream_rows es whole = events_header ++ event_rows es whole

-- "a longer stream gives" `1,,0,0,0,0` "alone"
unfoldable pub long_rows : List ℕ
long_rows = events_header ++ refused_row too_long_no

-- what is promised of the parts: the rows at a place of a list, the header and the rows, and the text in a list that may be too short.
-- Each is said of what the stream says; `every_stream_reads` and `one_stream_reading` in proofs/Theorems.antt say that this is one thing.
pub record PutsEvents (stream before : List ℕ) (at : ℕ) (after : List ℕ) (next : ℕ) : Type 0 where
  pub puts : (es : List LineEvent) (whole : Bool) → StreamSays stream 0 es whole → Wrote before at (event_rows es whole) after next

pub record PutsStream (stream before after : List ℕ) (next : ℕ) : Type 0 where
  pub puts : (es : List LineEvent) (whole : Bool) → StreamSays stream 0 es whole → Wrote before 0 (stream_rows es whole) after next

pub record PrintsStream (stream before : List ℕ) (told : Result ℕ TooShort) (after : List ℕ) : Type 0 where
  pub prints : (es : List LineEvent) (whole : Bool) → StreamSays stream 0 es whole → Prints (stream_rows es whole) before told after

-- and of the whole: a long stream is refused
pub record PrintsEvents (stream before : List ℕ) (told : Result ℕ TooShort) (after : List ℕ) : Type 0 where
  pub rows : length stream ≤ most_stream → PrintsStream stream before told after
  pub too_long : most_stream < length stream → Prints long_rows before told after
