-- Answers of the functions of the crates `syslog`, `syslog_write`, `syslog_read` and `stream_rows`, and of two lists of `stream_lists`,
-- are unique: whatever a promise allows, the answer and what a lent list holds at exit, is one thing. The promise stands as in the
-- function's `ensures`.
use Rattle.std.specs.Prelude.{ℕ, ◌+◌, ◌≡◌, Bool, List, replicate, Result, Option}
use Rattle.numbers.specs.Telling.{Unique}
use Rattle.text.specs.Wrote.{Wrote}
use Rattle.syslog.specs.declared.LineEvent.{LineEvent}
use Rattle.syslog.specs.declared.Unwritten.{Unwritten}
use Rattle.syslog.specs.declared.NotOurs.{NotOurs}
use Rattle.syslog.specs.Line.{line_of, framed_of, fits_line}
use Rattle.syslog.specs.Numbers.{written_no, line_read_no, frame_read_no, short_line}
use Rattle.syslog.specs.Lent.{Writes}
use Rattle.syslog.specs.Reading.{ReadsLine, ReadsFrame}
use Rattle.syslog.specs.Rows.{most_stream, PrintsEvents}
use Rattle.stream_lists.specs.{most_rows_text}
use Rattle.findings.specs.declared.TooShort.{TooShort}

pub record SyslogUnique : Type 0 where
  pub line_written_number : (w : Result ℕ Unwritten) → Unique (λ (x : ℕ). x ≡ written_no w)
  pub line_read_number : (told : Result LineEvent NotOurs) → Unique (λ (x : ℕ). x ≡ line_read_no told)
  pub frame_read_number : (told : Result (Option (LineEvent × ℕ)) NotOurs) → Unique (λ (x : ℕ). x ≡ frame_read_no told)
  pub unwritten_from : (short : TooShort) → Unique (λ (x : Unwritten). x ≡ short_line short)
  -- the place told, and the lent list at exit
  pub put_line : (list : List ℕ) (at : ℕ) (e : LineEvent) → Unique (λ (x : ℕ × List ℕ). Wrote list at (line_of e) x.1 x.0)
  pub put_frame : (list : List ℕ) (at : ℕ) (e : LineEvent) → Unique (λ (x : ℕ × List ℕ). Wrote list at (framed_of e) x.1 x.0)
  pub fits_line_lem : (e : LineEvent) → Unique (λ (x : Bool). x ≡ fits_line e)
  -- the answer, and the lent list at exit
  pub write_line : (e : LineEvent) (out : List ℕ) → Unique (λ (x : Result ℕ Unwritten × List ℕ). Writes e (line_of e) out x.0 x.1)
  pub write_frame : (e : LineEvent) (out : List ℕ) → Unique (λ (x : Result ℕ Unwritten × List ℕ). Writes e (framed_of e) out x.0 x.1)
  pub read_line : (text : List ℕ) → Unique (λ (x : Result LineEvent NotOurs). ReadsLine text x)
  pub read_frame : (s : List ℕ) (at : ℕ) → Unique (λ (x : Result (Option (LineEvent × ℕ)) NotOurs). ReadsFrame s at x)
  pub read_events_text : (stream out : List ℕ) → Unique (λ (x : Result ℕ TooShort × List ℕ). PrintsEvents stream out x.0 x.1)
  pub blank_stream : Unique (λ (x : List ℕ). x ≡ replicate (most_stream + 1) 0)
  pub blank_rows_text : Unique (λ (x : List ℕ). x ≡ replicate most_rows_text 0)
