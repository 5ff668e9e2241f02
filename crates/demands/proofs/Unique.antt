-- Answers are unique, of sheets and programs and of what the papers say by conditions; what that says is in `specs/Unique.antt`. Assumes nothing.
use Prim.Native.Nat.{ℕ}
use mathlib.Core.Path.{refl, sym, ◌∙◌}
use Rattle.record.specs.declared.record.Record.{Record}
use Rattle.record.specs.Steps.{HeldDoor, the_grant, no_door}
use Rattle.record.proofs.Right.{reason_only}
use Rattle.site_sheet.proofs.Only.{gives_site}
use Rattle.steps_sheet.proofs.Theorems.{heading_exactly, one_list_of_steps}
use Rattle.numbers.specs.Telling.{Unique}
use Rattle.numbers.proofs.Alone.{alone, beside_three}
use Rattle.sheet_answers.proofs.Unique.{one_printed}
use Rattle.demands.specs.Unique.{SiteUnique, StepsUnique, RunUnique, PapersUnique}

pub site_unique : SiteUnique
site_unique =
    record {
      site_line_of_lem = λ s cells. alone;
      rows_read = λ s from. alone;
      read_rows_lem = λ s from. alone;
      site_read = λ s. alone;
      read_site = λ s. alone;
      verdict_number = λ v. alone;
      verdict_place = λ v. alone;
      verdict_second_place = λ v. alone;
      site_refused_number = λ f. alone;
      site_refused_place = λ f. alone;
      site_refused_second_place = λ f. alone;
    }

pub steps_unique : StepsUnique
steps_unique = record { steps_line_of_lem = λ s cells. alone; heading_read = λ s. alone; heading_of_lem = λ s. alone; unheaded_number = λ why. alone; decode = λ s from kinds doors persons. beside_three }

pub run_unique : RunUnique
run_unique =
    record {
      panel_text_lem = λ site steps out. one_printed;
      where_text_lem = λ site steps out. one_printed;
      events_text_lem = λ site steps out. one_printed;
      write_text = λ list n. alone;
      blank_sheet = alone;
      blank_rights = alone;
      blank_panel_text = alone;
      blank_where_text = alone;
      blank_events_text = alone;
    }

-- the door told with a reason
one_door : (r : Record) (p why : ℕ) → Unique (HeldDoor r p why)
one_door r p why d e (the_grant g only) (the_grant h other) = sym (only e h)
one_door r p why d e (the_grant g only) (no_door other) = absurd (other refl)
one_door r p why d e (no_door other) (the_grant g only) = absurd (other refl)
one_door r p why d e (no_door other) (no_door none) = refl

pub papers_unique : PapersUnique
papers_unique =
    record {
      table_of_numbers = λ s v w g h. sym (gives_site g) ∙ gives_site h;
      first_reason_lem = λ r d p n m a b. sym (reason_only r d p n a) ∙ reason_only r d p m b;
      held_door = one_door;
      heading = λ most s h k a b. sym ((heading_exactly most s h).1 a) ∙ (heading_exactly most s k).1 b;
      steps = λ text x y a b. let e = one_list_of_steps a b in λ i. record { rows = e.0 i; whole = e.1 i };
    }
