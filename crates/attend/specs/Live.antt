-- A steps sheet that comes row by row, and what the panel's own loop prints of it.
use Rattle.std.specs.Prelude.{ℕ, ◌+◌, ◌^◌, ◌≤◌, ◌<◌, ◌≡◌, true, false, cond, List, [], ◌∷◌, ◌++◌, length, get_or, set, take}
use Rattle.grammar.specs.Grammar.{Row, RowAt}
use Rattle.phases.specs.Answers.{answer_no}
use Rattle.record.specs.declared.record.Record.{Record}
use Rattle.record.specs.declared.steps.Step.{Step}
use Rattle.record.specs.Steps.{told_by}
use Rattle.steps_sheet.specs.Steps.{is_step}
use Rattle.stream_text.specs.Rows.{told_text, card_after}
use Rattle.attend.specs.declared.RowAsks.{RowAsks}
use Rattle.attend.specs.declared.Attended.{Attended}
use Rattle.attend.specs.Attend.{asked_in, step_asked, shown_row, Attends}

-- a text comes in these rows: each row with its CRLF, which the last may do without; and a rest that begins with no row, all of it, as one more
pub data InRows : List ℕ → List (List ℕ) → Type 0 where
  no_more : InRows [] []
  a_row : {text row rest : List ℕ} {r : Row} {rows : List (List ℕ)} → RowAt text r rest → RowAt row r [] → text ≡ row ++ rest → InRows rest rows → InRows text (row ∷ rows)
  no_row : {text : List ℕ} → (text ≡ [] → ⊥) → ((r : Row) (rest : List ℕ) → RowAt text r rest → ⊥) → InRows text (text ∷ [])

pub record ComesInRows (text : List ℕ) : Type 0 where
  pub rows : List (List ℕ)
  pub in_rows : InRows text rows

-- the rows that are printed, from row n on: one for each row that comes, up to one of bad form
unfoldable pub live_rows : Record → ℕ → List (List ℕ) → List ℕ
live_rows r n [] = []
live_rows r n (row ∷ rows) =
    shown_row n (asked_in row) (told_by (step_asked r (asked_in row)))
    ++ cond (is_step (asked_in row).kind) (live_rows (step_asked r (asked_in row)).next (n + 1) rows) []

-- the record afterwards
unfoldable pub live_last : Record → List (List ℕ) → Record
live_last r [] = r
live_last r (row ∷ rows) = cond (is_step (asked_in row).kind) (live_last (step_asked r (asked_in row)).next rows) (step_asked r (asked_in row)).next

-- these rows were attended to by one call after the other, up to one of bad form, each with a list of 31 bytes or more: what stood at the front of the
-- lists, and the record at the end
pub data AttendedRows : Record → ℕ → List (List ℕ) → List ℕ → Record → Type 0 where
  none_left : {r : Record} {n : ℕ} → AttendedRows r n [] [] r
  bad_form : {r : Record} {n : ℕ} {row : List ℕ} {rows : List (List ℕ)} {before : List ℕ} {a : Attended} {next : Record} {after : List ℕ} → Attends r row n before a next after
      → n < 2 ^ 64 → 31 ≤ length before → is_step a.asked.kind ≡ false → AttendedRows r n (row ∷ rows) (take a.length after) next
  a_step : {r : Record} {n : ℕ} {row : List ℕ} {rows : List (List ℕ)} {before : List ℕ} {a : Attended} {next : Record} {after text : List ℕ} {last : Record}
      → Attends r row n before a next after → n < 2 ^ 64 → 31 ≤ length before → is_step a.asked.kind ≡ true → AttendedRows next (n + 1) rows text last
      → AttendedRows r n (row ∷ rows) (take a.length after ++ text) last

-- the frames of the events that are written beside the rows, `cards` having the person whose card is at each door
abbrev pub frame_of : List ℕ → RowAsks → Step → List ℕ
frame_of cards asked step =
    told_text asked.kind (answer_no step.answer) step.phase step.reason step.held asked.door (get_or cards asked.door 0)

abbrev pub cards_after : List ℕ → RowAsks → Step → List ℕ
cards_after cards asked step =
    set cards asked.door (card_after asked.kind (answer_no step.answer) asked.person (get_or cards asked.door 0))

unfoldable pub live_frames : Record → List ℕ → List (List ℕ) → List ℕ
live_frames r cards [] = []
live_frames r cards (row ∷ rows) =
    cond (is_step (asked_in row).kind)
    (frame_of cards (asked_in row) (step_asked r (asked_in row))
    ++ live_frames (step_asked r (asked_in row)).next (cards_after cards (asked_in row) (step_asked r (asked_in row))) rows)
    []
