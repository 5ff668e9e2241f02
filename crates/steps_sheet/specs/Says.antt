-- What a steps sheet says, in terms of the grammar alone: when a row is a step, when it is of bad form, and which list of steps
-- a sheet says. 01, "Program and one whole run".
use Rattle.std.specs.Prelude.{ℕ, ◌+◌, ◌≤◌, ◌<◌, ◌≡◌, Bool, true, false, List, [], ◌∷◌, length}
use Rattle.grammar.specs.Grammar.{Row, RowAt, content, fields}
use Rattle.grammar.specs.Where.{field_of}
use Rattle.cell_meaning.specs.Say.{ProperNumber}
use Rattle.cell_meaning.specs.Meaning.{Threefold}
use Rattle.phases.specs.declared.table.Kind.{Kind}
use Rattle.phases.specs.declared.table.StepRow.{StepRow}
use Rattle.phases.specs.Kinds.{names_person}
use Rattle.steps_sheet.specs.Heading.{Heading, TooLong, Wrong, Rows}
use Rattle.steps_sheet.specs.Words.{StepWord, step_head, door_head, person_head}

-- "the person is empty except for `card`, where it must be a number"
pub data PersonSaid : Kind → List ℕ → ℕ → Type 0 where
  a_person : {k : Kind} {c : List ℕ} {p : ℕ} → names_person k ≡ true → ProperNumber c p → PersonSaid k c p
  nobody : {k : Kind} → names_person k ≡ false → PersonSaid k [] 0

-- a row is a step: three fields, the step's word, its door and its person
pub record SaysStep (r : Row) (step : StepRow) : Type 0 where
  pub three : length (fields r) ≡ 3
  pub word : StepWord step.kind (content (field_of 0 r))
  pub door : ProperNumber (content (field_of 1 r)) step.at
  pub person_said : PersonSaid step.kind (content (field_of 2 r)) step.person

-- 2: "row of bad form, unknown .. step": it is no step
abbrev pub BadForm : Row → Type 0
BadForm r = (step : StepRow) → SaysStep r step → ⊥

-- the steps of a sheet, and whether the sheet ends behind them
pub record Steps : Type 0 where
  pub rows : List StepRow
  pub whole : Bool

-- the rows of a text say these steps, and the text ends behind them or not: "A row of form 2 .. ends the run", and so does a text
-- that goes on with no row
pub data TextSaysSteps : List ℕ → List StepRow → Bool → Type 0 where
  nothing : TextSaysSteps [] [] true
  a_step : {text : List ℕ} {r : Row} {rest : List ℕ} {step : StepRow} {steps : List StepRow} {whole : Bool} → RowAt text r rest → SaysStep r step
      → TextSaysSteps rest steps whole → TextSaysSteps text (step ∷ steps) whole
  bad_row_first : {text : List ℕ} {r : Row} {rest : List ℕ} → RowAt text r rest → BadForm r → TextSaysSteps text [] false
  no_row_there : {text : List ℕ} → (text ≡ [] → ⊥) → ((r : Row) (rest : List ℕ) → RowAt text r rest → ⊥) → TextSaysSteps text [] false

-- "The steps sheet has header `step,door,person`"
abbrev pub StepsHeaderRow : Row → Type 0
StepsHeaderRow r = Threefold r step_head door_head person_head

-- what the beginning of a sheet is, where a sheet is at most so many bytes
pub data HeadingSays (most : ℕ) (s : List ℕ) : Heading → Type 0 where
  -- "a long steps sheet"
  too_long : most < length s → HeadingSays most s TooLong
  -- "A wrong header"
  wrong : length s ≤ most → ((r : Row) (rest : List ℕ) → RowAt s r rest → StepsHeaderRow r → ⊥) → HeadingSays most s Wrong
  -- the header, and behind it the data rows begin
  rows_at : {r : Row} {rest : List ℕ} {from : ℕ} → length s ≤ most → RowAt s r rest → StepsHeaderRow r → from + length rest ≡ length s → HeadingSays most s (Rows from)

-- a steps sheet: it is short enough, begins with its header, and its further rows say these steps
pub record SheetSays (most : ℕ) (s : List ℕ) (steps : Steps) : Type 0 where
  pub short : length s ≤ most
  pub header : Row
  pub rest : List ℕ
  pub at : RowAt s header rest
  pub is : StepsHeaderRow header
  pub says : TextSaysSteps rest steps.rows steps.whole
