-- The theorems of the panel, each under the letter's words. What each says is a record of named facts in `specs/`, a fact for each
-- function or sentence with the papers' line beside it:
--     demand-1          `specs/DemandOne.antt`, with `sheet_answers/specs/Answers.antt`, `syslog_answers/specs/Answers.antt`,
--                       `table_answers/specs/Answers.antt`, and `record_answers/specs/Answers.antt`, `record_answers/specs/Deeds.antt`
--                       and `record_answers/specs/Enums.antt`
--     demand-2          `specs/DemandTwo.antt`
--     demand-3          `card_by_card/specs/Served.antt`, by `card_by_card/specs/Serving.antt`
--     demand-3-printed  `specs/Bytes.antt`
--     put-by-passages, refused-moves-nobody         `card_by_card/specs/Warden.antt`
--     walks-out         `card_by_card/specs/Leaving.antt`
--     answers-unique    `specs/Unique.antt`, with specs/Unique.antt of the same four crates, and `record_answers/specs/Deeds.antt` and
--                       `record_answers/specs/Enums.antt`
--     twelve-cases      `paper_cases/specs/Cases.antt`
-- They speak of the definitions that the promises in `src/` of each crate cite, so that they hold of the code. Assume nothing.
use Prim.Native.Nat.{ℕ, ◌<◌}
use mathlib.Core.Path.{◌≡◌}
use mathlib.Core.List.{List}
use Rattle.record.specs.declared.record.Record.{Record}
use Rattle.record.specs.Doors.{Shaped}
use Rattle.granting.specs.Grants.{GrantAt}
use Rattle.record.specs.Sound.{Sound}
use Rattle.phases.specs.declared.table.StepRow.{StepRow}
use Rattle.verdict.specs.Verdict.{Accepted}
use Rattle.grammar.specs.Sizes.{limit}
use Rattle.site_sheet.specs.Site.{site_of}
use Rattle.steps_sheet.specs.Says.{Steps, SheetSays}
use Rattle.site_sheet.proofs.Theorems.{accepted_exactly, accepted_holds}
use Rattle.chapter.proofs.Theorems.{constants_obey, the_chapter, invariants_hold, panel_runs, one_move_a_row, no_door_stuck}
use Rattle.demands.specs.DemandOne.{DemandOne}
use Rattle.demands.specs.DemandTwo.{DemandTwo}
use Rattle.run_events.proofs.Burning.{lights_told}
use Rattle.card_by_card.specs.Served.{DemandThree}
use Rattle.demands.specs.Bytes.{PrintedAsServed}
use Rattle.card_by_card.specs.Warden.{PutByPassages, RefusedMovesNobody}
use Rattle.card_by_card.specs.Leaving.{WalksOut}
use Rattle.demands.specs.Unique.{AnswersUnique}
use Rattle.paper_cases.specs.Cases.{TwelveCases}
use Rattle.sheet_answers.proofs.Sheets.{of_sheet}
use Rattle.sheet_answers.proofs.Texts.{of_text}
use Rattle.sheet_answers.proofs.Unique.{sheet_unique, text_unique}
use Rattle.syslog_answers.proofs.Answers.{of_syslog}
use Rattle.syslog_answers.proofs.Unique.{syslog_unique}
use Rattle.table_answers.proofs.Tables.{of_tables, of_rules}
use Rattle.table_answers.proofs.Doors.{of_door}
use Rattle.table_answers.proofs.Unique.{tables_unique, rules_unique, door_unique}
use Rattle.record_answers.proofs.Sound.{of_sound}
use Rattle.record_answers.proofs.Deeds.{of_deeds, deeds_unique}
use Rattle.record_answers.proofs.Record.{of_record}
use Rattle.record_answers.proofs.Enums.{of_enums, enums_unique}
use Rattle.record_answers.proofs.Unique.{sound_unique, record_unique}
use Rattle.demands.proofs.DemandOne.{of_site}
use Rattle.demands.proofs.StepsSheet.{of_steps}
use Rattle.demands.proofs.Texts.{of_run}
use Rattle.demands.proofs.Rows.{of_live, live_unique}
use Rattle.demands.proofs.DemandTwo.{way_of_lem, after_steps, asks_after, is_event, decided, held_grant, starts, tables_stay, run_tables_stay, alters, green_ordered, red_ordered, green_counts, red_counts}
use Rattle.demands.proofs.Bytes.{printed_as_served}
use Rattle.card_by_card.proofs.DemandThree as three
use Rattle.card_by_card.proofs.Warden as warden
use Rattle.card_by_card.proofs.Leaving as leaving
use Rattle.stream_text.proofs.Accepted.{accepted_fresh}
use Rattle.demands.proofs.Unique.{site_unique, steps_unique, run_unique, papers_unique}
use Rattle.paper_cases.proofs.TwelveCases as cases

-- "1. Any sheet of text, any record, any number for a door or a person: the panel ends, and acts or refuses by a number from the
-- papers. A refusal alters no record and no list lent to it."
pub demand_1 : DemandOne
demand_1 =
    record {
      of_sheet = of_sheet;
      of_text = of_text;
      of_syslog = of_syslog;
      of_tables = of_tables;
      of_rules = of_rules;
      of_door = of_door;
      of_sound = of_sound;
      of_deeds = of_deeds;
      of_record = of_record;
      of_enums = of_enums;
      of_site = of_site;
      of_steps = of_steps;
      of_run = of_run;
      of_live = of_live;
    }

-- "2. A site sheet is accepted exactly when it obeys the written rules, and its record holds what its rows say, so everybody has a
-- signed way outside which they may use. Each step does what the events of the location access chapter, to its fourth refinement,
-- say: it acts exactly when it may, is green exactly when all three conditions hold, otherwise red with the first reason that
-- applies."
pub demand_2 : DemandTwo
demand_2 =
    record {
      accepted = accepted_exactly limit;
      holds = accepted_holds limit;
      way_outside_of = way_of_lem;
      way_outside = after_steps;
      way_asked = asks_after;
      step = is_event;
      decision = decided;
      held_is_the_grant = λ r sh. held_grant r;
      axioms = constants_obey;
      chapter = the_chapter;
      invariants = invariants_hold;
      starts = starts;
      runs = panel_runs;
      one_move = one_move_a_row;
      no_door_stuck = no_door_stuck;
      whole_run = cases.whole_run;
      whole_run_places = cases.whole_run_places;
      tables_stay = tables_stay;
      run_tables_stay = run_tables_stay;
      alters = alters;
      green_ordered = green_ordered;
      red_ordered = red_ordered;
      green_counts = green_counts;
      red_counts = red_counts;
      lights = lights_told;
    }

-- "3. Any list of steps from a fresh record can be served one card at a time, in the order of what was recorded, with everyone
-- standing where the real record has them and each card getting the decision it got, for the same reason (a card refused only for
-- another open grant is then granted and not used)."
pub demand_3 : (s : List ℕ) → (site_of s).verdict ≡ Accepted → (rows : List StepRow) → DemandThree (site_of s).«record» rows
demand_3 s e rows = three.demand_3 (site_of s).«record» (accepted_fresh s e) rows

-- Down to the bytes: what the two programs print of an accepted site sheet and a steps sheet that is read is what the serving gives.
pub demand_3_printed : (site : List ℕ) → (site_of site).verdict ≡ Accepted → (steps : List ℕ) (said : Steps) → SheetSays limit steps said
    → PrintedAsServed site steps said
demand_3_printed = printed_as_served

-- So no order or lateness of messages puts a person where no recorded passage put them,
pub put_by_passages : (s : List ℕ) → (site_of s).verdict ≡ Accepted → (rows : List StepRow) → PutByPassages (site_of s).«record» rows
put_by_passages s e rows = warden.put_by_passages (site_of s).«record» (accepted_fresh s e) rows

-- and a refused card moves nobody.
pub refused_moves_nobody : (s : List ℕ) → (site_of s).verdict ≡ Accepted → (rows : List StepRow) → RefusedMovesNobody (site_of s).«record» rows
refused_moves_nobody s e rows = warden.refused_moves_nobody (site_of s).«record» (accepted_fresh s e) rows

-- "so everybody has a signed way outside which they may use": in every sound record whoever has no grant walks out by the free doors of
-- that way, step by step.
pub walks_out : (r : Record) → Shaped r → Sound r → (p : ℕ) → p < r.people → ((d : ℕ) → GrantAt r.doors r.phase r.holder p d → ⊥) → WalksOut r p
walks_out = leaving.walks_out

-- "Each public function says, for every input, its answer and every byte or field it was lent, refusals too. That two answers both
-- allowed are equal is itself a theorem."
pub answers_unique : AnswersUnique
answers_unique =
    record {
      of_sheet = sheet_unique;
      of_text = text_unique;
      of_syslog = syslog_unique;
      of_tables = tables_unique;
      of_rules = rules_unique;
      of_door = door_unique;
      of_sound = sound_unique;
      of_deeds = deeds_unique;
      of_record = record_unique;
      of_enums = enums_unique;
      of_site = site_unique;
      of_steps = steps_unique;
      of_run = run_unique;
      of_live = live_unique;
      of_the_papers = papers_unique;
    }

-- "Twelve cases to prove .. They are proved together as one checked list."
pub twelve_cases : TwelveCases
twelve_cases = cases.twelve_cases
