-- Demand 3 down to the bytes; what it says is in `specs/Bytes.antt`. Assumes nothing.
use Prim.Native.Nat.{ℕ}
use mathlib.Core.Path.{◌≡◌, refl, sym, ap, ◌∙◌}
use mathlib.Core.List.{List, [], ◌∷◌, map}
use lib.ListN.{take}
use Rattle.tables.specs.Tables.{Plan}
use Rattle.record.specs.declared.record.Record.{Record}
use Rattle.phases.specs.declared.table.StepRow.{StepRow}
use Rattle.record.specs.Run.{Reply, reply_by, row_of, last_of, replies_of}
use Rattle.record.proofs.Laws.{run_plan}
use Rattle.verdict.specs.Verdict.{Accepted}
use Rattle.grammar.specs.Sizes.{limit}
use Rattle.site_sheet.specs.Site.{site_of}
use Rattle.steps_sheet.specs.Says.{Steps, SheetSays}
use Rattle.steps_sheet.proofs.Theorems.{sheet_exactly}
use Rattle.run_text.specs.Printed.{run_text, panel_text, places_text, record_text, where_text}
use Rattle.run_events.specs.Lines.{lines_of, heard_of}
use Rattle.run_events.proofs.Burning.{lights_told}
use Rattle.card_by_card.specs.Serving.{recorded_in, services}
use Rattle.card_by_card.specs.Served.{served_in}
use Rattle.card_by_card.proofs.DemandThree.{demand_3}
use Rattle.demands.specs.Bytes.{reply_of_line, PrintedAsServed}
use Rattle.stream_text.proofs.Accepted.{accepted_fresh}

-- the replies of the lines are the replies of the run
replies_heard : (r : Record) (rows : List StepRow) → map reply_of_line (heard_of r rows) ≡ replies_of r rows
unfolding heard_of lines_of replies_of
replies_heard r [] = refl
replies_heard r (row ∷ rows) = ap (λ (l : List Reply). reply_by (row_of r row) ∷ l) (replies_heard (row_of r row).next rows)

module _ (site : List ℕ) (e : (site_of site).verdict ≡ Accepted) (steps : List ℕ) (said : Steps) (says : SheetSays limit steps said) where
  abbrev fresh : Record
  fresh = (site_of site).«record»

  -- the two texts of sheets that are read
  panel_prints : panel_text site steps ≡ run_text (replies_of fresh said.rows) said.whole
  unfolding panel_text
  panel_prints = let reads = (sheet_exactly limit steps said).1 says in rw (e, reads.heading, reads.is)

  where_prints : where_text site steps ≡ record_text (last_of fresh said.rows)
  unfolding where_text
  where_prints = let reads = (sheet_exactly limit steps said).1 says in rw (e, reads.heading, reads.is)

  pub printed_as_served : PrintedAsServed site steps said
  printed_as_served =
      let new = accepted_fresh site e in
      let three = demand_3 fresh new said.rows in
      let people : (served_in fresh said.rows).people ≡ (last_of fresh said.rows).people =
      ap (λ (p : Plan). p.people) (run_plan fresh (services (recorded_in fresh said.rows)) ∙ sym (run_plan fresh said.rows)) in
      record {
        panel = rw (replies_heard fresh said.rows) panel_prints;
        decided = three.decided;
        held_open = three.held_open;
        lights = lights_told fresh new.shaped new.sound said.rows;
        places = where_prints ∙ sym (λ i. places_text (take (people i) (three.places i)));
      }
