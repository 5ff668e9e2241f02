-- The theorems of the stream of a run; what they say is in `specs/Claims.antt`. Assumes nothing.
--     events-fit          every event of a run from a sound record of at most 64 people has a line
--     lines-tell          a line tells all of its event but the row
--     stream-is-read      frame after frame a stream reads as the events of its run
--     collector-knows     whoever reads it and has the site's sheet knows where everyone is
--     events-text-fits    no stream has more than 58 bytes for each step that a sheet can have
use Prim.Native.Nat.{ℕ, ◌≤◌}
use mathlib.Core.Path.{◌≡◌, refl, sym, ap, ◌∙◌}
use mathlib.Core.Bool.{Bool, true, false, cond}
use mathlib.Core.List.{List, [], map}
use borrow.Author.Tests.{ne_eqb}
use lib.Dec.{eqb}
use lib.ListN.{length}
use Rattle.verdict.specs.Verdict.{Accepted}
use Rattle.site_sheet.specs.Site.{site_of, verdict_no}
use Rattle.steps_sheet.specs.Heading.{Heading}
use Rattle.steps_sheet.specs.Heading.{TooLong, Wrong, Rows}
use Rattle.steps_sheet.specs.Steps.{heading_of, steps_from}
use Rattle.run_text.specs.Printed.{places_text, where_text}
use Rattle.run_text.proofs.Sheets.{zero_accepted}
use Rattle.run_events.specs.Events.{What, Grant, Denial, Passage, Lapse, RunEvent, events_in}
use Rattle.syslog.specs.declared.Msgid.{Msgid}
use Rattle.syslog.specs.declared.Msgid.TheVariants as msgid
use Rattle.syslog.specs.declared.LineEvent.{LineEvent}
use Rattle.syslog.specs.Line.{stream_of}
use Rattle.syslog.specs.Reading.{StreamSays}
use Rattle.syslog.proofs.Theorems.{one_stream_reading, stream_read_back}
use Rattle.stream_text.specs.Stream.{msgid_of, reason_of, held_by, line_event, steps_events, sheet_events, events_text, most_stream_text}
use Rattle.stream_text.specs.Claims.{EventsFit, SameButRow, StreamIsRead, CollectorKnows}
use Rattle.stream_text.proofs.Fit.{run_fits, fresh_fits, sheets_fit}
use Rattle.stream_text.proofs.Collecting.{sheets_collected}
use Rattle.stream_text.proofs.Lengths.{stream_fits}

pub events_fit : EventsFit
events_fit = record { of_a_run = run_fits; of_a_fresh_run = fresh_fits; of_the_sheets = sheets_fit }

-- what a line says of an event, back
what_of : Msgid → ℕ → ℕ → What
what_of msgid.Grant reason held = Grant
what_of msgid.Deny reason held = Denial reason held
what_of msgid.Pass reason held = Passage
what_of msgid.Lapse reason held = Lapse

what_back : (w : What) → what_of (msgid_of w) (reason_of w) (held_by w) ≡ w
unfolding what_of
what_back Grant = refl
what_back (Denial why held) = refl
what_back Passage = refl
what_back Lapse = refl

pub lines_tell : (e f : RunEvent) → line_event e ≡ line_event f → SameButRow e f
unfolding line_event
lines_tell e f same =
    record {
      same_what = sym (what_back e.what) ∙ (ap (λ (l : LineEvent). what_of l.msgid l.reason l.held) same ∙ what_back f.what);
      same_door = ap (λ (l : LineEvent). l.door) same;
      same_person = ap (λ (l : LineEvent). l.person) same;
    }

module _ (site steps : List ℕ) where
  reads : StreamSays (events_text site steps) 0 (sheet_events site steps) true
  unfolding events_text
  reads = stream_read_back (sheet_events site steps) (sheets_fit site steps)

  -- with a refused site there are no events, and the place of nobody is printed
  module _ (no_way : (site_of site).verdict ≡ Accepted → ⊥) where
    refused : eqb (verdict_no (site_of site).verdict) 0 ≡ false
    refused = ne_eqb _ _ (λ z. no_way (zero_accepted (site_of site).verdict z))

    none : sheet_events site steps ≡ []
    unfolding sheet_events
    none = rw refused

    header : where_text site steps ≡ places_text []
    unfolding where_text
    header = rw refused

  no_headed : (h : Heading) → heading_of steps ≡ h → ((from : ℕ) → heading_of steps ≡ Rows from → ⊥) → steps_events (site_of site).«record» steps h ≡ []
  no_headed TooLong e no_rows = refl
  no_headed Wrong e no_rows = refl
  no_headed (Rows from) e no_rows = absurd (no_rows from e)

  no_run : ((from : ℕ) → heading_of steps ≡ Rows from → ⊥) → sheet_events site steps ≡ []
  unfolding sheet_events
  no_run no_rows = go (eqb (verdict_no (site_of site).verdict) 0)
    where
      go : (b : Bool) → cond b (steps_events (site_of site).«record» steps (heading_of steps)) [] ≡ []
      go true = no_headed (heading_of steps) refl no_rows
      go false = refl

  a_run : (site_of site).verdict ≡ Accepted → (from : ℕ) → heading_of steps ≡ Rows from
      → sheet_events site steps ≡ map line_event (events_in (site_of site).«record» (steps_from steps from).rows)
  unfolding sheet_events
  a_run e from h = rw (e, h)

  empty : sheet_events site steps ≡ [] → events_text site steps ≡ []
  unfolding events_text stream_of
  empty e = rw e

  -- a whole reading is of those events
  only_these : (es : List LineEvent) → StreamSays (events_text site steps) 0 es true → es ≡ sheet_events site steps
  only_these es says = (one_stream_reading (events_text site steps) 0 es _ true true says reads).0

  pub stream_is_read : StreamIsRead site steps
  stream_is_read =
      record {
        reads = reads;
        only = λ es whole says. one_stream_reading (events_text site steps) 0 es _ whole true says reads;
        a_run = a_run;
        refused_site_lem = λ no_way. empty (none no_way);
        no_rows = λ no_rows. empty (no_run no_rows);
      }

  pub collector_knows : CollectorKnows site steps
  collector_knows =
      record {
        stream = stream_is_read;
        accepted = λ e es says. rw (only_these es says) (sheets_collected site steps e);
        refused = λ no_way es says. (only_these es says ∙ none no_way, header no_way);
      }

  pub events_text_fits : length (events_text site steps) ≤ most_stream_text
  events_text_fits = stream_fits site steps
