-- Demand 3 down to the bytes: what `panel` and `where` print of two sheets, beside the serving of the same run card by card.
use Rattle.std.specs.Prelude.{ℕ, ◌≡◌, List, ◌++◌, map}
use Rattle.record.specs.Run.{Reply}
use Rattle.site_sheet.specs.Site.{site_of}
use Rattle.steps_sheet.specs.Says.{Steps}
use Rattle.run_text.specs.Printed.{run_text, panel_text, record_text, where_text}
use Rattle.run_events.specs.Lines.{Line, heard_of}
use Rattle.run_events.specs.Events.{no_spells, spells_of, events_of}
use Rattle.run_events.specs.Told.{standing}
use Rattle.run_events.specs.Open.{NamesOpenGrants}
use Rattle.run_events.specs.Burning.{LightsTold}
use Rattle.card_by_card.specs.Serving.{recorded}
use Rattle.card_by_card.specs.Served.{decided_at, decisions_at, grant_open, Alike, served_in}

-- the steps that a steps sheet says, each with what it answered from the fresh record of a site sheet
abbrev pub heard_in : List ℕ → Steps → List Line
heard_in site said = heard_of (site_of site).«record» said.rows

abbrev pub reply_of_line : Line → Reply
reply_of_line line = line.reply

-- of a site sheet, a steps sheet and the steps that it says
pub record PrintedAsServed (site steps : List ℕ) (said : Steps) : Type 0 where
  -- `panel` prints "a row for each data row": the answer, the phase, the reason and the held door of each line, in order;
  pub panel : panel_text site steps ≡ run_text (map reply_of_line (heard_in site said)) said.whole
  -- of the lines of a door that are a `decide` answered 0, in order, each has the decision, the reason and the held door with which its card
  -- is served from the fresh record, but for reason 3; only a grant that is open at the end isn't served; what is served is made of these
  -- lines alone;
  pub decided : (d : ℕ) → Alike (decided_at d (heard_in site said))
      (decisions_at d (site_of site).«record» (recorded (events_of no_spells 1 (heard_in site said))) ++ grant_open (standing (spells_of no_spells 1 (heard_in site said) d)))
  -- the door that a `decide` row answered 0 names with reason 3 is, by the lines before it, one whose own card of the same person was
  -- granted and has neither passed nor lapsed since;
  pub held_open : NamesOpenGrants (events_of no_spells 1 (heard_in site said))
  -- from a `green` answered 0 to the first line of its door that was answered 0 with another phase than 3, that line counted, there are at
  -- most 300 ticks of the door, and just 300 unless that line is a `walk`; from a `red`, up to another phase than 7, just 20. While there is
  -- no such line they are fewer, and only ticks are answered 0 at that door;
  pub lights : LightsTold (heard_in site said)
  -- and what `where` prints is what the served record prints
  pub places : where_text site steps ≡ record_text (served_in (site_of site).«record» said.rows)
