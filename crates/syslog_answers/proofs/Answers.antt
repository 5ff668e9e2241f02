-- Demand 1 of syslog lines and streams; what it says is in `specs/Answers.antt`. Assumes nothing.
use Prim.Native.Nat.{ℕ, ◌+◌, ◌≤◌, ◌<◌}
use mathlib.Core.Path.{◌≡◌, refl, ap, ◌∙◌}
use mathlib.Core.Bool.{Bool, true, false}
use mathlib.Core.List.{List, ◌++◌}
use mathlib.Core.Logic.{◌⊎◌, inl, inr, ⊎_elim}
use native.Mathlib.Omega.{arith}
use native.Mathlib.Nat.{zero-add}
use borrow.Author.Tests.{leb-true, leb-false}
use lib.ListN.{length, drop, replicate}
use lib.Seq.{sets-eq}
use Rattle.std.specs.Prelude.{Result, Option, Some, None, Ok, Err}
use Rattle.numbers.specs.Numbers.{not_aline_no}
use Rattle.numbers.specs.Telling.{done, ◌unless◌then◌, NumberBy}
use Rattle.tables.proofs.Cases.{below_or_not}
use Rattle.tables.proofs.Laws.{clash}
use Rattle.text.specs.Printed.{fits_in, written}
use Rattle.syslog.specs.declared.LineEvent.{LineEvent}
use Rattle.syslog.specs.declared.Unwritten.{Unwritten}
use Rattle.syslog.specs.declared.Unwritten.TheVariants as unwritten
use Rattle.syslog.specs.declared.NotOurs.{NotOurs}
use Rattle.syslog.specs.Line.{fits_line}
use Rattle.syslog.specs.Numbers.{written_no, line_read_no, frame_read_no}
use Rattle.syslog.specs.Lent.{written_of, list_with, Writes}
use Rattle.syslog.specs.Reading.{ReadsLine, ReadsFrame}
use Rattle.syslog.specs.Rows.{most_stream, stream_rows, long_rows, PrintsEvents}
use Rattle.stream_lists.specs.{most_rows_text}
use Rattle.syslog.proofs.Fit.{fits_tells}
use Rattle.syslog.proofs.Finding.{frame_onward}
use Rattle.syslog.proofs.RowLengths.{stream_rows_few, long_rows_few}
use Rattle.syslog.proofs.Theorems.{only_lines_read, only_frames_read, every_line_reads, every_frame_reads, every_stream_reads}
use Rattle.sheet_answers.specs.Answers.{TextTells}
use Rattle.sheet_answers.proofs.Texts.{written_told, text_tells, blank_long, in_blank}
use Rattle.syslog_answers.specs.Answers.{WrittenHas, a_text, unfit, no_room, LineHas, a_line, no_line, FrameHas, a_frame, at_end, no_frame, WriteTells, SomeLine, SomeFrame, RowsText, rows, too_long, SyslogAnswers}
use Rattle.findings.specs.declared.TooShort.{TooShort}

-- ---- the numbers

written_has : (w : Result ℕ Unwritten) → WrittenHas w (written_no w)
written_has (Ok n) = a_text n
written_has (Err unwritten.Unfit) = unfit
written_has (Err unwritten.TooShort) = no_room

line_has : (told : Result LineEvent NotOurs) → LineHas told (line_read_no told)
line_has (Ok e) = a_line e
line_has (Err others) = no_line

frame_has : (told : Result (Option (LineEvent × ℕ)) NotOurs) → FrameHas told (frame_read_no told)
frame_has (Ok (Some (e, next))) = a_frame e next
frame_has (Ok None) = at_end
frame_has (Err others) = no_frame

-- ---- writing

-- by whether the event fits, and whether there is room for its text
write_told : {e : LineEvent} {bytes out : List ℕ} {told : Result ℕ Unwritten} {after : List ℕ} → Writes e bytes out told after → WriteTells e bytes out told after
unfolding written_of list_with fits_in written
write_told {e} {bytes} {out} w = rw (w.answer, w.list) (go (fits_line e) refl (fits_in bytes out) refl)
  where
    go : (f : Bool) → fits_line e ≡ f → (b : Bool) → fits_in bytes out ≡ b → WriteTells e bytes out (written_of e bytes out) (list_with e bytes out)
    go false f b room =
        rw f
        (record {
          number = inl ((λ fits. clash ((fits_tells e).back fits) f), refl);
          a_length = λ z. absurd (omega (arith, z));
          in_front = λ z. absurd (omega (arith, z));
          unaltered = λ _. refl;
        })
    go true f true room =
        let h = leb-true (length bytes) (length out) room in
        rw (f, room)
        (record {
          number = inr ((fits_tells e).yes f, inr (h, refl));
          a_length = λ _. refl;
          in_front = λ _. sets-eq bytes out 0 (omega arith) ∙ ap (λ (k : ℕ). bytes ++ drop k out) (zero-add (length bytes));
          unaltered = λ no_way. absurd (no_way refl);
        })
    go true f false room =
        let h = leb-false (length bytes) (length out) room in
        rw (f, room)
        (record {
          number = inr ((fits_tells e).yes f, inl ((λ l. absurd (omega arith)), refl));
          a_length = λ z. absurd (omega (arith, z));
          in_front = λ z. absurd (omega (arith, z));
          unaltered = λ _. refl;
        })

-- ---- reading

line_number : (bytes : List ℕ) (told : Result LineEvent NotOurs) → ReadsLine bytes told → NumberBy (not_aline_no unless SomeLine bytes then done) (line_read_no told)
line_number bytes (Ok e) x = inr ((e, x), refl)
line_number bytes (Err others) x = inl ((λ l. x l.0 l.1), refl)

frame_number : (s : List ℕ) (at : ℕ) (told : Result (Option (LineEvent × ℕ)) NotOurs) → ReadsFrame s at told
    → NumberBy (not_aline_no unless (at ≡ length s) ⊎ SomeFrame s at then done) (frame_read_no told)
frame_number s at (Ok (Some (e, next))) x = inr (inr (e, next, x), refl)
frame_number s at (Ok None) x = inr (inl x, refl)
frame_number s at (Err others) x = inl (⊎_elim x.0 (λ l. x.1 l.0 l.1 l.2), refl)

-- ---- the rows of a stream

stream_text : (stream : List ℕ) → (bytes : List ℕ) × RowsText stream bytes
stream_text stream =
    ⊎_elim (λ long. (long_rows, too_long long refl))
    (λ short. let r = every_stream_reads stream in (stream_rows r.events r.whole, rows r.events r.whole short r.says refl))
    (below_or_not most_stream (length stream))

rows_printed : {stream out : List ℕ} {told : Result ℕ TooShort} {after : List ℕ} → PrintsEvents stream out told after → (bytes : List ℕ) → RowsText stream bytes
    → TextTells bytes out told after
rows_printed p bytes (rows es whole short says is) = rw is (text_tells ((p.rows short).prints es whole says))
rows_printed p bytes (too_long long is) = rw is (text_tells (p.too_long long))

pub read_events_fits : (stream bytes : List ℕ) → RowsText stream bytes → length bytes ≤ most_rows_text
read_events_fits stream bytes (rows es whole short says is) = rw is (stream_rows_few stream es whole short says)
read_events_fits stream bytes (too_long long is) = rw is long_rows_few

-- ---- the lists

-- a list of one zero more than a number is longer than what has no more than that number
a_zero_more : {n most : ℕ} → n ≤ most → n < length {A = ℕ} (replicate (most + 1) 0)
a_zero_more {n} {most} h = let l = blank_long (most + 1) in omega arith

pub of_syslog : SyslogAnswers
of_syslog =
    record {
      line_written_number = written_has;
      line_read_number = line_has;
      frame_read_number = frame_has;
      unwritten_from = λ short. refl;
      put_line = λ list at e after next w. written_told w;
      put_frame = λ list at e after next w. written_told w;
      fits_line_lem = fits_tells;
      write_line = λ e out told after w. write_told w;
      write_frame = λ e out told after w. write_told w;
      read_line = λ bytes. record { something = every_line_reads bytes; number = line_number bytes; only = only_lines_read bytes };
      read_frame = λ s at.
          record { something = every_frame_reads s at; number = frame_number s at; only = only_frames_read s at; onward = λ e next x. frame_onward x };
      read_events_text = λ stream out told after p. record { some_text = stream_text stream; tells = rows_printed p };
      blank_stream = λ s h. a_zero_more h;
      blank_rows_text = λ stream bytes r. in_blank bytes (read_events_fits stream bytes r);
    }
