-- What the theorems of proofs/Theorems.antt say. 02, C-11 and C-12.
use Rattle.std.specs.Prelude.{ℕ, ◌≤◌, ◌≡◌, Bool, true, List, [], map, take}
use Rattle.tables.specs.Tables.{most_people}
use Rattle.tables.specs.Zero.{zeros}
use Rattle.phases.specs.declared.table.StepRow.{StepRow}
use Rattle.record.specs.declared.record.Record.{Record}
use Rattle.record.specs.Doors.{Shaped}
use Rattle.record.specs.Sound.{Sound}
use Rattle.verdict.specs.Verdict.{Accepted}
use Rattle.site_sheet.specs.Site.{site_of}
use Rattle.steps_sheet.specs.Heading.{Rows}
use Rattle.steps_sheet.specs.Steps.{heading_of, steps_from}
use Rattle.run_events.specs.Lines.{heard_of}
use Rattle.run_events.specs.Events.{RunEvent, Spell, events_of, events_in}
use Rattle.run_events.specs.Told.{Agree}
use Rattle.card_by_card.specs.Served.{Fresh}
use Rattle.run_text.specs.Printed.{places_text, where_text}
use Rattle.syslog.specs.declared.LineEvent.{LineEvent}
use Rattle.syslog.specs.Line.{AllFit}
use Rattle.syslog.specs.Reading.{StreamSays}
use Rattle.stream_text.specs.Stream.{line_event, line_events_in, sheet_events, events_text, collected}

-- Every event of a run has a line: no door or person is over 63, and the reason and the held door fit.
pub record EventsFit : Type 0 where
  -- of every list of steps, from every sound record whose people are no more than a site's, with any spells that agree with its doors,
  pub of_a_run : (r : Record) → Shaped r → Sound r → r.people ≤ most_people → (spells : ℕ → Spell) (n : ℕ) → Agree spells r → (rows : List StepRow)
      → AllFit (map line_event (events_of spells n (heard_of r rows)))
  -- so from every fresh one,
  pub of_a_fresh_run : (r : Record) → Fresh r → (rows : List StepRow) → AllFit (line_events_in r rows)
  -- and of every two sheets
  pub of_the_sheets : (site steps : List ℕ) → AllFit (sheet_events site steps)

-- two events of a run are the same but for the row
pub record SameButRow (e f : RunEvent) : Type 0 where
  pub same_what : e.what ≡ f.what
  pub same_door : e.at ≡ f.at
  pub same_person : e.person ≡ f.person

-- Frame after frame a stream reads as the events of its run.
pub record StreamIsRead (site steps : List ℕ) : Type 0 where
  -- the stream of two sheets reads as their events, and ends behind them,
  pub reads : StreamSays (events_text site steps) 0 (sheet_events site steps) true
  -- as nothing else,
  pub only : (es : List LineEvent) (whole : Bool) → StreamSays (events_text site steps) 0 es whole → (es ≡ sheet_events site steps) × (whole ≡ true)
  -- and where there is a run, these are its events, each of them, in the order of the rows;
  pub a_run : (site_of site).verdict ≡ Accepted → (from : ℕ) → heading_of steps ≡ Rows from
      → sheet_events site steps ≡ map line_event (events_in (site_of site).«record» (steps_from steps from).rows)
  -- with a refused site, or a long or wrongly headed steps sheet, there are none
  pub refused_site_lem : ((site_of site).verdict ≡ Accepted → ⊥) → events_text site steps ≡ []
  pub no_rows : ((from : ℕ) → heading_of steps ≡ Rows from → ⊥) → events_text site steps ≡ []

-- Whoever reads the stream and has the site's sheet knows where everyone is, as `where` prints it.
pub record CollectorKnows (site steps : List ℕ) : Type 0 where
  -- the stream can be read, in one way alone,
  pub stream : StreamIsRead site steps
  -- and whatever is read from it puts everyone where the record has them: all begin outside;
  pub accepted : (site_of site).verdict ≡ Accepted → (es : List LineEvent) → StreamSays (events_text site steps) 0 es true
      → where_text site steps
      ≡ places_text (take (site_of site).«record».people (collected (site_of site).«record».destination (zeros most_people) es))
  -- with a refused site nothing is read, and `where` prints only the header
  pub refused : ((site_of site).verdict ≡ Accepted → ⊥) → (es : List LineEvent) → StreamSays (events_text site steps) 0 es true
      → (es ≡ []) × (where_text site steps ≡ places_text [])
