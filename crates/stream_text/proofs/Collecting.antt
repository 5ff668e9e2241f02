-- What a collector makes of the stream is what the record has. Assumes nothing.
use Prim.Native.Nat.{ℕ}
use mathlib.Core.Path.{◌≡◌, refl, sym, ap, ◌∙◌}
use mathlib.Core.List.{List, [], ◌∷◌, map}
use lib.ListN.{get_or, set, take}
use Rattle.tables.specs.Tables.{Plan, most_people}
use Rattle.tables.specs.Zero.{zeros}
use Rattle.phases.specs.declared.table.StepRow.{StepRow}
use Rattle.record.specs.declared.record.Record.{Record}
use Rattle.record.specs.Run.{last_of}
use Rattle.record.proofs.Laws.{run_plan}
use Rattle.verdict.specs.Verdict.{Accepted}
use Rattle.site_sheet.specs.Site.{site_of}
use Rattle.steps_sheet.specs.Heading.{Heading}
use Rattle.steps_sheet.specs.Heading.{TooLong, Wrong, Rows}
use Rattle.steps_sheet.specs.Steps.{heading_of, steps_from}
use Rattle.run_events.specs.Events.{What, Grant, Denial, Passage, Lapse, RunEvent}
use Rattle.card_by_card.specs.Serving.{ends_card, recorded}
use Rattle.card_by_card.specs.Served.{Fresh}
use Rattle.card_by_card.specs.Warden.{is_passage, places_by}
use Rattle.card_by_card.proofs.Warden.{put_by_passages}
use Rattle.run_text.specs.Printed.{places_text, record_text, last_record, where_text}
use Rattle.stream_text.specs.Stream.{line_event, line_events_in, steps_events, sheet_events, is_pass, collected}
use Rattle.stream_text.proofs.Accepted.{accepted_fresh}

-- the lines move whom the recorded passages move: a grant moves nobody, nor does what else ends a card
collects : (destination place : List ℕ) (es : List RunEvent) → collected destination place (map line_event es) ≡ places_by destination place (recorded es)
unfolding collected recorded places_by line_event is_pass is_passage ends_card
collects destination place [] = refl
collects destination place (e ∷ es) = go (λ p. collects destination p es) e.what refl
  where
    go : ((p : List ℕ) → collected destination p (map line_event es) ≡ places_by destination p (recorded es)) → (w : What) → e.what ≡ w
        → collected destination place (map line_event (e ∷ es)) ≡ places_by destination place (recorded (e ∷ es))
    go on Grant is = rw is (on place)
    go on (Denial why held) is = rw is (on place)
    go on Passage is = rw is (on (set place e.person (get_or destination e.at 0)))
    go on Lapse is = rw is (on place)

module _ (r : Record) (f : Fresh r) where
  outside : zeros most_people ≡ r.place
  outside = sym (ap (λ (x : Record). x.place) f.fresh)

  run_collected : (rows : List StepRow) → collected r.destination (zeros most_people) (line_events_in r rows) ≡ (last_of r rows).place
  run_collected rows =
      ap (λ (place : List ℕ). collected r.destination place (line_events_in r rows)) outside
      ∙ (collects r.destination r.place _ ∙ sym (put_by_passages r f rows).places)

  -- and so for every steps sheet
  headed_collected : (steps : List ℕ) (h : Heading)
      → record_text (last_record r steps h) ≡ places_text (take r.people (collected r.destination (zeros most_people) (steps_events r steps h)))
  unfolding collected
  headed_collected steps TooLong = rw outside
  headed_collected steps Wrong = rw outside
  headed_collected steps (Rows from) =
      rw (run_collected (steps_from steps from).rows, ap (λ (p : Plan). p.people) (run_plan r (steps_from steps from).rows))

pub sheets_collected : (site steps : List ℕ) → (site_of site).verdict ≡ Accepted
    → where_text site steps ≡ places_text (take (site_of site).«record».people (collected (site_of site).«record».destination (zeros most_people) (sheet_events site steps)))
unfolding where_text sheet_events
sheets_collected site steps e = rw e (headed_collected (site_of site).«record» (accepted_fresh site e) steps (heading_of steps))
