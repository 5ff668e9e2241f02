-- How long a stream can be: a step gives one event or none. Assumes nothing.
use Prim.Native.Nat.{ℕ, ◌+◌, ◌*◌, ◌≤◌}
use mathlib.Core.Path.{◌≡◌, refl}
use mathlib.Core.List.{List, [], ◌∷◌}
use native.Mathlib.Omega.{arith}
use lib.Dec.{eqb}
use lib.ListN.{length, length-append, length-map}
use Rattle.tables.proofs.Cases.{either}
use Rattle.phases.specs.declared.table.StepRow.{StepRow}
use Rattle.record.specs.declared.record.Record.{Record}
use Rattle.record.specs.Run.{Reply, replies_of}
use Rattle.grammar.specs.Sizes.{limit}
use Rattle.site_sheet.specs.Site.{site_of, verdict_no}
use Rattle.steps_sheet.specs.Heading.{Heading}
use Rattle.steps_sheet.specs.Heading.{TooLong, Wrong, Rows}
use Rattle.steps_sheet.specs.Steps.{heading_of, steps_from}
use Rattle.steps_sheet.specs.Lent.{most_steps}
use Rattle.steps_sheet.proofs.Theorems.{few_steps, headed_short}
use Rattle.run_events.specs.Lines.{Line, lines_of, heard_of}
use Rattle.run_events.specs.Events.{Meaning, Taken, Happened, Freed, Nothing, meaning_of, Spell, spells_after, no_spells, event_by, events_of, events_in}
use Rattle.syslog.specs.declared.LineEvent.{LineEvent}
use Rattle.syslog.specs.Line.{framed_of, stream_of, AllFit, no_more, fits}
use Rattle.syslog.proofs.Lengths.{frame_short}
use Rattle.stream_text.specs.Stream.{line_event, line_events_in, steps_events, sheet_events, events_text, most_stream_text}
use Rattle.stream_text.proofs.Fit.{sheets_fit}

-- ---- how many events there are

one_or_none : (m : Meaning) (n d p : ℕ) → length (event_by m n d p) ≤ 1
unfolding event_by
one_or_none Taken n d p = omega arith
one_or_none (Happened what) n d p = omega arith
one_or_none Freed n d p = omega arith
one_or_none Nothing n d p = omega arith

events_few : (lines : List Line) (spells : ℕ → Spell) (n : ℕ) → length (events_of spells n lines) ≤ length lines
unfolding events_of
events_few [] spells n = omega arith
events_few (line ∷ lines) spells n =
    let person = (spells line.row.at).person in
    let one = one_or_none (meaning_of line) n line.row.at person in
    let on = events_few lines (spells_after spells n line) (n + 1) in
    let l = length-append (event_by (meaning_of line) n line.row.at person) (events_of (spells_after spells n line) (n + 1) lines) in
    omega arith

lines_few : (rows : List StepRow) (replies : List Reply) → length (lines_of rows replies) ≤ length rows
unfolding lines_of
lines_few [] replies = omega arith
lines_few (row ∷ rows) [] = omega arith
lines_few (row ∷ rows) (reply ∷ replies) = let on = lines_few rows replies in omega arith

run_few : (r : Record) (rows : List StepRow) → length (line_events_in r rows) ≤ length rows
unfolding heard_of
run_few r rows =
    let same = length-map (events_in r rows) line_event in
    let events = events_few (heard_of r rows) no_spells 1 in
    let lines = lines_few rows (replies_of r rows) in
    omega arith

headed_few : (r : Record) (steps : List ℕ) (h : Heading) → heading_of steps ≡ h → length (steps_events r steps h) ≤ most_steps
headed_few r steps TooLong e = omega arith
headed_few r steps Wrong e = omega arith
headed_few r steps (Rows from) e =
    let few = run_few r (steps_from steps from).rows in
    let rows = few_steps steps from in
    let short = headed_short limit steps e in
    omega arith

sheets_few : (site steps : List ℕ) → length (sheet_events site steps) ≤ most_steps
unfolding sheet_events
sheets_few site steps =
    either (λ (es : List LineEvent). length es ≤ most_steps) (eqb (verdict_no (site_of site).verdict) 0)
    (λ _. headed_few (site_of site).«record» steps (heading_of steps) refl) (λ _. omega arith)

-- ---- and how long their frames are

stream_short : {es : List LineEvent} → AllFit es → length (stream_of es) ≤ 58 * length es
unfolding stream_of
stream_short no_more = omega arith
stream_short (fits {e} {es} f on) =
    let one = frame_short e f in
    let rest = stream_short on in
    let l = length-append (framed_of e) (stream_of es) in
    omega arith

pub stream_fits : (site steps : List ℕ) → length (events_text site steps) ≤ most_stream_text
unfolding events_text
stream_fits site steps =
    let short = stream_short (sheets_fit site steps) in
    let few = sheets_few site steps in
    omega arith
