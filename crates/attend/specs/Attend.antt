-- One row of a steps sheet, answered as it comes. 01, "Steps": "the panel's own loop lends it the one record and finds it altered, or as it was
-- after a refusal."
use Rattle.std.specs.Prelude.{ℕ, ◌≡◌, cond, List, length, eqb}
use Rattle.std.specs.Prelude.{Option, Some, None}
use Rattle.phases.specs.declared.table.StepRow.{StepRow}
use Rattle.numbers.specs.Numbers.{bad_form_no}
use Rattle.grammar.specs.declared.cut.RowCut.{RowCut}
use Rattle.grammar.specs.declared.cut.RowCut.TheVariants.{Cut, NoRow, Broken}
use Rattle.grammar.specs.Cut.{cut_row}
use Rattle.phases.specs.declared.table.Kind.TheVariants.{Unknown}
use Rattle.phases.specs.Answers.{answer_no}
use Rattle.deeds.specs.declared.Told.{Told}
use Rattle.record.specs.declared.record.Record.{Record}
use Rattle.record.specs.declared.steps.Step.{Step}
use Rattle.record.specs.Steps.{step_of, told_by}
use Rattle.steps_sheet.specs.Steps.{steps_line_at, is_step}
use Rattle.text.specs.Wrote.{Wrote}
use Rattle.run_text.specs.Printed.{panel_row}
use Rattle.attend.specs.declared.RowAsks.{RowAsks}
use Rattle.attend.specs.declared.Attended.{Attended}

-- what some bytes say that are to be one row, with its CRLF or without: no row, or more than one, is of bad form
abbrev pub row_says_by : List ℕ → RowCut → Option StepRow
row_says_by row (Cut cells next) = cond (eqb next (length row)) (steps_line_at row cells) None
row_says_by row NoRow = None
row_says_by row (Broken byte) = None

unfoldable pub row_says : List ℕ → Option StepRow
row_says row = row_says_by row (cut_row row 0)

-- what a row asks for; one of bad form asks for no step
abbrev pub asked_by : Option StepRow → RowAsks
asked_by (Some step) = record { kind = step.kind; door = step.at; person = step.person }
asked_by None = record { kind = Unknown; door = 0; person = 0 }

abbrev pub asked_in : List ℕ → RowAsks
asked_in row = asked_by (row_says row)

-- the step that is asked for, on a record
abbrev pub step_asked : Record → RowAsks → Step
step_asked r asked = step_of r asked.kind asked.door asked.person

-- the row to print: "a row for each data row", and "A row of form 2 is printed `row,2,0,0`", with the column of 02, C-12
unfoldable pub shown_row : ℕ → RowAsks → Told → List ℕ
shown_row n asked told =
    cond (is_step asked.kind) (panel_row n (answer_no told.answer) told.phase told.reason told.held) (panel_row n bad_form_no 0 0 0)

-- a row with its number was attended to: what it asked for and what is told of that, the record afterwards, and the row to print at the front of
-- the lent list, with how long it is
pub record Attends (r : Record) (row : List ℕ) (n : ℕ) (before : List ℕ) (attended : Attended) (next : Record) (after : List ℕ) : Type 0 where
  pub asked_is : attended.asked ≡ asked_in row
  pub told_is : attended.told ≡ told_by (step_asked r (asked_in row))
  pub next_is : next ≡ (step_asked r (asked_in row)).next
  pub wrote : Wrote before 0 (shown_row n (asked_in row) (told_by (step_asked r (asked_in row)))) after attended.length
