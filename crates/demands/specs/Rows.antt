-- Demand 1, and that answers are unique, of rows that are answered as they come: crate `attend`, and of crate `stream` the events that are written
-- one by one.
use Rattle.std.specs.Prelude.{ℕ, ◌^◌, ◌≤◌, ◌<◌, ◌≡◌, List, length, get_or, set, replicate}
use Rattle.std.specs.Prelude.{Some, None}
use Rattle.numbers.specs.Numbers.{done_no, bad_form_no}
use Rattle.numbers.specs.Telling.{Unique}
use Rattle.tables.specs.Tables.{most_doors}
use Rattle.phases.specs.declared.table.Kind.{Kind}
use Rattle.phases.specs.Answers.{answer_no}
use Rattle.record.specs.declared.record.Record.{Record}
use Rattle.record.specs.Doors.{Shaped}
use Rattle.record.specs.Steps.{step_of, told_by}
use Rattle.text.specs.Wrote.{Wrote}
use Rattle.run_text.specs.Printed.{panel_row}
use Rattle.sheet_answers.specs.Answers.{TextWritten}
use Rattle.record_answers.specs.Answers.{StepTells}
use Rattle.stream_text.specs.Rows.{told_text, card_after}
use Rattle.attend.specs.declared.Attended.{Attended}
use Rattle.attend.specs.declared.Turn.{Turn}
use Rattle.attend.specs.Attend.{row_says, asked_in, step_asked, shown_row, Attends}

-- a row of bad form is printed with 2, and any other with the number of its step; both leave the record as it was where they are refused. The row to print
-- stands at the front of the list, and of a shaped record a list of 31 bytes has room for it, its number having 20 digits at most
pub record AttendTells (r : Record) (row : List ℕ) (n : ℕ) (before : List ℕ) (attended : Attended) (next : Record) (after : List ℕ) : Type 0 where
  pub printed_bad : row_says row ≡ None → shown_row n (asked_in row) (told_by (step_asked r (asked_in row))) ≡ panel_row n bad_form_no 0 0 0
  pub printed_step : (k : Kind) (d p : ℕ) → row_says row ≡ Some (record { kind = k; at = d; person = p })
      → shown_row n (asked_in row) (told_by (step_asked r (asked_in row)))
      ≡ panel_row n (answer_no (step_of r k d p).answer) (step_of r k d p).phase (step_of r k d p).reason (step_of r k d p).held
  pub number : (k : Kind) (d p : ℕ) → row_says row ≡ Some (record { kind = k; at = d; person = p }) → StepTells r k d p (step_of r k d p)
  pub bad_form : row_says row ≡ None → next ≡ r
  pub refused : (answer_no attended.told.answer ≡ done_no → ⊥) → next ≡ r
  pub written : TextWritten before 0 (shown_row n (asked_in row) (told_by (step_asked r (asked_in row)))) after attended.length
  pub short : Shaped r → n < 10 ^ 20 → length (shown_row n (asked_in row) (told_by (step_asked r (asked_in row)))) ≤ 31

pub record LiveAnswers : Type 0 where
  pub attend : (r : Record) (row : List ℕ) (n : ℕ) (before : List ℕ) (attended : Attended) (next : Record) (after : List ℕ) → Attends r row n before attended next after
      → AttendTells r row n before attended next after
  pub attend_once : (r : Record) (row : List ℕ) (n : ℕ) (before : List ℕ) (turn : Turn) (after : List ℕ) → Attends r row n before turn.attended turn.next after
      → AttendTells r row n before turn.attended turn.next after
  -- the frame stands at its place; the door has the card that it has after the step, and all else in the list of cards is as it was
  pub put_event : (cards : List ℕ) (kind : Kind) (answer phase reason held door person : ℕ) (list : List ℕ) (at : ℕ) (cards' after : List ℕ) (next : ℕ)
      → Wrote list at (told_text kind answer phase reason held door (get_or cards door 0)) after next
      → cards' ≡ set cards door (card_after kind answer person (get_or cards door 0))
      → TextWritten list at (told_text kind answer phase reason held door (get_or cards door 0)) after next
      × (length cards' ≡ length cards)
      × (door < length cards → get_or cards' door 0 ≡ card_after kind answer person (get_or cards door 0))
      × ((other : ℕ) → (other ≡ door → ⊥) → get_or cards' other 0 ≡ get_or cards other 0)
  -- a place for each of 64 doors, and before any card is taken 0 at each
  pub no_cards : (length {A = ℕ} (replicate most_doors 0) ≡ 64) × ((door : ℕ) → get_or {A = ℕ} (replicate most_doors 0) door 0 ≡ 0)

pub record LiveUnique : Type 0 where
  -- how the row was attended to, the record and the lent list at exit
  pub attend : (r : Record) (row : List ℕ) (n : ℕ) (before : List ℕ) → Unique (λ (x : Attended × Record × List ℕ). Attends r row n before x.0 x.1 x.2)
  pub attend_once : (r : Record) (row : List ℕ) (n : ℕ) (before : List ℕ) → Unique (λ (x : Turn × List ℕ). Attends r row n before x.0.attended x.0.next x.1)
  -- the place behind the frame, and the two lent lists at exit
  pub put_event : (cards : List ℕ) (kind : Kind) (answer phase reason held door person : ℕ) (list : List ℕ) (at : ℕ)
      → Unique
      (λ (x : ℕ × List ℕ × List ℕ).
      Wrote list at (told_text kind answer phase reason held door (get_or cards door 0)) x.1 x.0
      × (x.2 ≡ set cards door (card_after kind answer person (get_or cards door 0))))
  pub no_cards : Unique (λ (x : List ℕ). x ≡ replicate most_doors 0)
