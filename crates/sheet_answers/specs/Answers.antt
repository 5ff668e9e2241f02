-- Demand 1 of sheets and texts: each field is a public function of the crates `sheet`, `cells`, `reader`, `text`, `number_rows` or
-- `findings`, and says what follows of the definition that its promise cites. A function that answers no number tells a place or a fact:
-- the place is there, the fact is told exactly where its field has `Tells` or `↔`.
use Rattle.std.specs.Prelude.{ℕ, ◌+◌, ◌≤◌, ◌<◌, ◌≡◌, false, List, [], ◌∷◌, ◌++◌, ◌↔◌, length, take, drop, Some, Result, Ok, Err}
use Rattle.std.specs.Borrow.{Bor, MutBor}
use Rattle.std.specs.Fn.{Shared}
use Rattle.numbers.specs.Numbers.{done_no, too_short_no}
use Rattle.reader.specs.declared.Reader.{Reader}
use Rattle.grammar.specs.declared.cut.Cell.{Cell}
use Rattle.grammar.specs.declared.cut.Cells.{Cells}
use Rattle.grammar.specs.declared.cut.FieldCut.{FieldCut}
use Rattle.grammar.specs.declared.cut.FieldCut.TheVariants.{Next, Last, Fault}
use Rattle.grammar.specs.declared.cut.RowCut.{RowCut}
use Rattle.grammar.specs.declared.cut.RowCut.TheVariants.{Cut, NoRow, Broken}
use Rattle.grammar.specs.declared.count.BrokenSheet.{BrokenSheet}
use Rattle.grammar.specs.Cut.{cut_field, cut_row}
use Rattle.grammar.specs.Rows.{count_rows}
use Rattle.reader.specs.Reader.{reader_at}
use Rattle.cell_meaning.specs.Say.{ProperNumber, content_at, is_word, says_words, number_at}
use Rattle.text.specs.Text.{decimal, row_of_numbers}
use Rattle.text.specs.Wrote.{last_place, Wrote}
use Rattle.text.specs.Printed.{Prints, Puts}
use Rattle.findings.specs.Told.{printed_no}
use Rattle.tables.specs.Below.{Tells}
use Rattle.numbers.specs.Telling.{done, ◌unless◌then◌, NumberBy, OneOf}
use Rattle.findings.specs.declared.TooShort.{TooShort}

-- ---- crates `sheet`, `cells` and `reader`

-- a place told lies in the sheet, from `at` on
pub record Within (s : List ℕ) (at place : ℕ) : Type 0 where
  pub from : at ≤ place
  pub to : place ≤ length s

-- a field's content lies in the sheet, from `at` on
abbrev pub Lies : List ℕ → ℕ → Cell → Type 0
Lies s at cell = (at ≤ cell.start) × Within s cell.start cell.end

abbrev pub FieldTold : List ℕ → ℕ → FieldCut → Type 0
FieldTold s at (Next cell next) = Lies s at cell × Within s at next
FieldTold s at (Last cell next) = Lies s at cell × Within s at next
FieldTold s at (Fault byte) = Within s at byte

abbrev pub RowTold : List ℕ → ℕ → RowCut → Type 0
-- a row that is cut takes a byte at least, and its cells lie in the sheet from there on
RowTold s at (Cut cells next) =
    (at < next) × (next ≤ length s) × Lies s at cells.first × (2 ≤ cells.count → Lies s at cells.second) × (3 ≤ cells.count → Lies s at cells.third)
-- there is none at the sheet's end, and behind it
RowTold s at NoRow = length s ≤ at
RowTold s at (Broken byte) = Within s at byte

abbrev pub CountTold : List ℕ → Result ℕ BrokenSheet → Type 0
CountTold s (Ok rows) = rows ≤ length s
CountTold s (Err broken) = (broken.rows ≤ length s) × (broken.byte ≤ length s)

-- a cell has a word's bytes, and no doubled quote
abbrev pub HasWord : List ℕ → Cell → List ℕ → Type 0
HasWord s cell word = (cell.doubled ≡ false) × (content_at s cell ≡ word)

pub record HasWords (s : List ℕ) (cells : Cells) (x y z : List ℕ) : Type 0 where
  pub three : cells.count ≡ 3
  pub is_first_lem : HasWord s cells.first x
  pub is_second : HasWord s cells.second y
  pub is_third : HasWord s cells.third z

pub record SheetAnswers : Type 0 where
  pub cut_field_lem : (s : List ℕ) (at : ℕ) → at ≤ length s → FieldTold s at (cut_field s at)
  pub cut_row_lem : (s : List ℕ) (at : ℕ) → RowTold s at (cut_row s at)
  pub count_rows_lem : (s : List ℕ) → CountTold s (count_rows s)
  -- "a reader holds the sheet and the byte it has come to", and tells the row there
  pub reader_at_byte : (sheet : Bor (List ℕ)) (at : ℕ) → ((reader_at sheet at).sheet ≡ sheet) × ((reader_at sheet at).at ≡ at)
  pub reader_row : (reader : Reader) → RowTold reader.sheet.now reader.at (cut_row reader.sheet.now reader.at)
  pub row_at : (s : List ℕ) (at : ℕ) → RowTold s at (cut_row s at)
  -- a cell is a word, and the three cells of a row are three words, exactly when they have the words' bytes
  pub is_word_lem : (s : List ℕ) (cell : Cell) (word : List ℕ) → Tells (is_word s cell word) (HasWord s cell word)
  pub says_words_lem : (s : List ℕ) (cells : Cells) (x y z : List ℕ) → Tells (says_words s cells x y z) (HasWords s cells x y z)
  -- "A number is 1 to 3 digits with no needless leading zero.": a cell is told as one exactly when it is one
  pub number_of : (s : List ℕ) (cell : Cell) (n : ℕ) → (number_at s cell ≡ Some n) ↔ ((cell.doubled ≡ false) × ProperNumber (content_at s cell) n)

-- ---- crates `text` and `number_rows`, and the number of a text that is printed

-- a text is written at a place of a list, which stays as long as it was: within the list it stands there, the rest is unaltered and
-- the place behind it is told; past the list's end nothing is written
pub record TextWritten (list : List ℕ) (at : ℕ) (text after : List ℕ) (next : ℕ) : Type 0 where
  pub as_long : length after ≡ length list
  pub within : at + length text ≤ length list → after ≡ take at list ++ text ++ drop (at + length text) list
  pub past : length list ≤ at → after ≡ list
  pub behind : at + length text ≤ last_place → next ≡ at + length text

-- 13: "list lent .. is shorter"; else the text stands in front, its length told, and the rest is unaltered
pub record TextTells (text out : List ℕ) (told : Result ℕ TooShort) (after : List ℕ) : Type 0 where
  pub number : NumberBy (too_short_no unless length text ≤ length out then done) (printed_no told)
  pub a_length : length text ≤ length out → told ≡ Ok (length text)
  pub in_front : length text ≤ length out → after ≡ text ++ drop (length text) out
  pub unaltered : length out < length text → after ≡ out

pub record TextAnswers : Type 1 where
  pub put : (list : List ℕ) (at byte : ℕ) (after : List ℕ) (next : ℕ) → Wrote list at (byte ∷ []) after next → TextWritten list at (byte ∷ []) after next
  pub put_bytes : (list : List ℕ) (at : ℕ) (bytes after : List ℕ) (next : ℕ) → Wrote list at bytes after next → TextWritten list at bytes after next
  -- a number has a digit at least
  pub put_number : (list : List ℕ) (at n : ℕ) (after : List ℕ) (next : ℕ) → Wrote list at (decimal n) after next
      → TextWritten list at (decimal n) after next × (1 ≤ length (decimal n))
  -- a row has a digit and CRLF at least
  pub put_row : (list : List ℕ) (at first : ℕ) (more after : List ℕ) (next : ℕ) → Wrote list at (row_of_numbers first more) after next
      → TextWritten list at (row_of_numbers first more) after next × (3 ≤ length (row_of_numbers first more))
  -- whatever text is promised by `Prints`: it is told by its length and stands in front, or is refused
  pub prints : (text list : List ℕ) (told : Result ℕ TooShort) (after : List ℕ) → Prints text list told after → TextTells text list told after
  -- and so is that of `print`, whatever puts it
  pub print : {F : Type 0} (g : Shared F (MutBor (List ℕ) × Unit {0}) (ℕ × (MutBor (List ℕ) × Unit {0}))) (put : F) (text list : List ℕ) (told : Result ℕ TooShort) (after : List ℕ)
      → Puts g put text → ((text : List ℕ) → Puts g put text → Prints text list told after) → TextTells text list told after
  pub printed_number : (p : Result ℕ TooShort) → OneOf (done_no ∷ too_short_no ∷ []) (printed_no p)
