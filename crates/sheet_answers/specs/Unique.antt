-- Answers of the functions of the crates `sheet`, `cells`, `reader`, `text` and `number_rows`, and the number of a text that is printed, are
-- unique: whatever a promise allows, the answer and what each lent list holds at exit, is one thing. The promise stands as in the
-- function's `ensures`.
use Rattle.std.specs.Prelude.{ℕ, ◌≡◌, Bool, List, [], ◌∷◌, Option, Result}
use Rattle.std.specs.Borrow.{Bor, MutBor}
use Rattle.std.specs.Fn.{Shared}
use Rattle.reader.specs.declared.Reader.{Reader}
use Rattle.grammar.specs.declared.cut.Cell.{Cell}
use Rattle.grammar.specs.declared.cut.Cells.{Cells}
use Rattle.grammar.specs.declared.cut.FieldCut.{FieldCut}
use Rattle.grammar.specs.declared.cut.RowCut.{RowCut}
use Rattle.grammar.specs.declared.count.BrokenSheet.{BrokenSheet}
use Rattle.grammar.specs.Cut.{cut_field, cut_row}
use Rattle.grammar.specs.Rows.{count_rows}
use Rattle.reader.specs.Reader.{reader_at}
use Rattle.cell_meaning.specs.Say.{is_word, says_words, number_at}
use Rattle.text.specs.Text.{decimal, row_of_numbers}
use Rattle.text.specs.Wrote.{Wrote}
use Rattle.text.specs.Printed.{Prints, Puts}
use Rattle.findings.specs.Told.{printed_no}
use Rattle.numbers.specs.Telling.{Unique}
use Rattle.findings.specs.declared.TooShort.{TooShort}

pub record SheetUnique : Type 0 where
  pub cut_field_lem : (s : List ℕ) (at : ℕ) → Unique (λ (x : FieldCut). x ≡ cut_field s at)
  pub cut_row_lem : (s : List ℕ) (at : ℕ) → Unique (λ (x : RowCut). x ≡ cut_row s at)
  pub count_rows_lem : (s : List ℕ) → Unique (λ (x : Result ℕ BrokenSheet). x ≡ count_rows s)
  pub reader_at_byte : (sheet : Bor (List ℕ)) (at : ℕ) → Unique (λ (x : Reader). x ≡ reader_at sheet at)
  pub reader_row : (reader : Reader) → Unique (λ (x : RowCut). x ≡ cut_row reader.sheet.now reader.at)
  pub row_at : (s : List ℕ) (at : ℕ) → Unique (λ (x : RowCut). x ≡ cut_row s at)
  pub is_word_lem : (s : List ℕ) (cell : Cell) (word : List ℕ) → Unique (λ (x : Bool). x ≡ is_word s cell word)
  pub says_words_lem : (s : List ℕ) (cells : Cells) (x y z : List ℕ) → Unique (λ (b : Bool). b ≡ says_words s cells x y z)
  pub number_of : (s : List ℕ) (cell : Cell) → Unique (λ (x : Option ℕ). x ≡ number_at s cell)

pub record TextUnique : Type 1 where
  -- the place told, and the lent list at exit
  pub put : (list : List ℕ) (at byte : ℕ) → Unique (λ (x : ℕ × List ℕ). Wrote list at (byte ∷ []) x.1 x.0)
  pub put_bytes : (list : List ℕ) (at : ℕ) (bytes : List ℕ) → Unique (λ (x : ℕ × List ℕ). Wrote list at bytes x.1 x.0)
  pub put_number : (list : List ℕ) (at n : ℕ) → Unique (λ (x : ℕ × List ℕ). Wrote list at (decimal n) x.1 x.0)
  pub put_row : (list : List ℕ) (at first : ℕ) (more : List ℕ) → Unique (λ (x : ℕ × List ℕ). Wrote list at (row_of_numbers first more) x.1 x.0)
  -- of each text that is promised by `Prints`: the answer, and the lent list at exit
  pub prints : (text list : List ℕ) → Unique (λ (x : Result ℕ TooShort × List ℕ). Prints text list x.0 x.1)
  -- and so of that of `print`, whatever puts it
  pub print : {F : Type 0} (g : Shared F (MutBor (List ℕ) × Unit {0}) (ℕ × (MutBor (List ℕ) × Unit {0}))) (put : F) (text list : List ℕ) → Puts g put text
      → Unique (λ (x : Result ℕ TooShort × List ℕ). (text : List ℕ) → Puts g put text → Prints text list x.0 x.1)
  pub printed_number : (p : Result ℕ TooShort) → Unique (λ (x : ℕ). x ≡ printed_no p)
