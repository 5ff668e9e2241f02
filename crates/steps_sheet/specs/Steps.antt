-- What a steps sheet says, worked out row by row. That this is what `Says` says is proved in proofs/Theorems.antt.
use Rattle.std.specs.Prelude.{ℕ, ◌≡◌, Bool, true, false, cond, List, [], ◌∷◌, length, drop, ltb, eqb, Option, Some, None}
use Rattle.cell_meaning.specs.Say.{is_word, says_words, number_at, named_from}
use Rattle.grammar.specs.Cut.{cut_row}
use Rattle.grammar.specs.Rows.{Rows, no_more, broken, row, rows_from}
use Rattle.grammar.specs.Sizes.{limit}
use Rattle.grammar.specs.declared.cut.Cell.{Cell}
use Rattle.grammar.specs.declared.cut.Cells.{Cells}
use Rattle.grammar.specs.declared.cut.RowCut.{RowCut}
use Rattle.grammar.specs.declared.cut.RowCut.TheVariants.{Cut, NoRow, Broken}
use Rattle.phases.specs.declared.table.Kind.{Kind}
use Rattle.phases.specs.declared.table.Kind.TheVariants.{Card}
use Rattle.phases.specs.declared.table.StepRow.{StepRow}
use Rattle.phases.specs.Kinds.{kind_of, number_of_kind, names_person}
use Rattle.steps_sheet.specs.Heading.{Heading, TooLong, Wrong, Rows as RowsAt}
use Rattle.steps_sheet.specs.Words.{step_words, step_head, door_head, person_head}
use Rattle.steps_sheet.specs.Says.{Steps}

-- the step that a field names among those from this one on in the paper's order, and among all of them
abbrev pub kind_from : Kind → List ℕ → Cell → Kind
kind_from first s cell = named_from kind_of (number_of_kind first) (drop (number_of_kind first) step_words) s cell

abbrev pub kind_at : List ℕ → Cell → Kind
kind_at s cell = kind_from Card s cell

-- "the person is empty except for `card`, where it must be a number"
unfoldable pub person_at : List ℕ → Kind → Cell → Option ℕ
person_at s kind cell = cond (names_person kind) (number_at s cell) (cond (is_word s cell []) (Some 0) None)

-- one of the ten steps
abbrev pub is_step : Kind → Bool
is_step kind = ltb (number_of_kind kind) (length step_words)

-- none where the row is of bad form
abbrev pub steps_line_of : Kind → Option ℕ → Option ℕ → Option StepRow
steps_line_of kind (Some door) (Some person) = cond (is_step kind) (Some (record { kind = kind; at = door; person = person })) None
steps_line_of kind (Some door) None = None
steps_line_of kind None person = None

-- a row: three fields, the step, its door and its person
unfoldable pub steps_line_at : List ℕ → Cells → Option StepRow
steps_line_at s cells =
    cond (eqb cells.count 3)
    (steps_line_of (kind_at s cells.first) (number_at s cells.second) (person_at s (kind_at s cells.first) cells.third)) None

-- "The steps sheet has header `step,door,person`"
unfoldable pub steps_header_at : List ℕ → Cells → Bool
steps_header_at s cells = says_words s cells step_head door_head person_head

abbrev pub headed : List ℕ → RowCut → Heading
headed s (Cut cells next) = cond (steps_header_at s cells) (RowsAt next) Wrong
headed s NoRow = Wrong
headed s (Broken byte) = Wrong

-- "A wrong header", "a long steps sheet"; else where the first data row begins
unfoldable pub heading_at : ℕ → List ℕ → Heading
heading_at most s = cond (ltb most (length s)) TooLong (headed s (cut_row s 0))

abbrev pub heading_of : List ℕ → Heading
heading_of s = heading_at limit s

abbrev pub no_steps : Bool → Steps
no_steps whole = record { rows = []; whole = whole }

-- "A row of form 2 .. ends the run.": a step in front of those behind it, unless the row is of bad form
abbrev pub before : Option StepRow → Steps → Steps
before (Some step) behind = record { rows = step ∷ behind.rows; whole = behind.whole }
before None behind = no_steps false

unfoldable pub steps_in : List ℕ → Rows → Steps
steps_in s no_more = no_steps true
steps_in s (broken byte) = no_steps false
steps_in s (row cells rows) = before (steps_line_at s cells) (steps_in s rows)

-- the steps of the rows from a position on
abbrev pub steps_from : List ℕ → ℕ → Steps
steps_from s from = steps_in s (rows_from s from)

-- a whole sheet: its data rows begin there, and these are their steps
pub record SheetReads (most : ℕ) (s : List ℕ) (steps : Steps) : Type 0 where
  pub from : ℕ
  pub heading : heading_at most s ≡ RowsAt from
  pub is : steps_from s from ≡ steps
