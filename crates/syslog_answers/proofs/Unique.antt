-- Answers of the functions over syslog lines and streams are unique; what that says of each is in `specs/Unique.antt`. Assumes nothing.
use Prim.Native.Nat.{ℕ}
use mathlib.Core.List.{List}
use mathlib.Core.Logic.{⊎_elim}
use lib.ListN.{length}
use Rattle.std.specs.Prelude.{Result}
use Rattle.numbers.specs.Telling.{Unique}
use Rattle.numbers.proofs.Alone.{alone, beside}
use Rattle.tables.proofs.Cases.{below_or_not}
use Rattle.syslog.specs.declared.LineEvent.{LineEvent}
use Rattle.syslog.specs.declared.Unwritten.{Unwritten}
use Rattle.syslog.specs.Lent.{Writes}
use Rattle.syslog.specs.Rows.{most_stream, PrintsEvents}
use Rattle.syslog.proofs.Streams.{line_told_once, frame_told_once}
use Rattle.syslog.proofs.Theorems.{every_stream_reads}
use Rattle.sheet_answers.proofs.Unique.{one_written, one_printed}
use Rattle.syslog_answers.specs.Unique.{SyslogUnique}
use Rattle.findings.specs.declared.TooShort.{TooShort}

one_line_written : {e : LineEvent} {text out : List ℕ} → Unique (λ (x : Result ℕ Unwritten × List ℕ). Writes e text out x.0 x.1)
one_line_written x y p q = beside x y (p.answer, p.list) (q.answer, q.list)

-- what a stream says is one thing, and there is something that it says
one_events_text : (stream out : List ℕ) → Unique (λ (x : Result ℕ TooShort × List ℕ). PrintsEvents stream out x.0 x.1)
one_events_text stream out x y p q =
    let r = every_stream_reads stream in
    ⊎_elim (λ long. one_printed x y (p.too_long long) (q.too_long long))
    (λ short. one_printed x y ((p.rows short).prints r.events r.whole r.says) ((q.rows short).prints r.events r.whole r.says))
    (below_or_not most_stream (length stream))

pub syslog_unique : SyslogUnique
syslog_unique =
    record {
      line_written_number = λ w. alone;
      line_read_number = λ told. alone;
      frame_read_number = λ told. alone;
      unwritten_from = λ short. alone;
      put_line = λ list at e. one_written;
      put_frame = λ list at e. one_written;
      fits_line_lem = λ e. alone;
      write_line = λ e out. one_line_written;
      write_frame = λ e out. one_line_written;
      read_line = line_told_once;
      read_frame = frame_told_once;
      read_events_text = one_events_text;
      blank_stream = alone;
      blank_rows_text = alone;
    }
