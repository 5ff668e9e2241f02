-- Answers of the functions over sheets and texts are unique; what that says of each is in `specs/Unique.antt`. Assumes nothing.
use Prim.Native.Nat.{ℕ}
use mathlib.Core.List.{List}
use Rattle.std.specs.Prelude.{Result}
use Rattle.text.specs.Wrote.{Wrote}
use Rattle.text.specs.Printed.{Prints}
use Rattle.numbers.specs.Telling.{Unique}
use Rattle.numbers.proofs.Alone.{alone, beside}
use Rattle.sheet_answers.specs.Unique.{SheetUnique, TextUnique}
use Rattle.findings.specs.declared.TooShort.{TooShort}

-- a text that is written has one place behind it and leaves one list, and one that is printed one answer and one list
pub one_written : {list text : List ℕ} {at : ℕ} → Unique (λ (x : ℕ × List ℕ). Wrote list at text x.1 x.0)
one_written x y p q = beside x y (p.place, p.list) (q.place, q.list)

pub one_printed : {text list : List ℕ} → Unique (λ (x : Result ℕ TooShort × List ℕ). Prints text list x.0 x.1)
one_printed x y p q = beside x y (p.answer, p.list) (q.answer, q.list)

pub sheet_unique : SheetUnique
sheet_unique =
    record {
      cut_field_lem = λ s at. alone;
      cut_row_lem = λ s at. alone;
      count_rows_lem = λ s. alone;
      reader_at_byte = λ sheet at. alone;
      reader_row = λ reader. alone;
      row_at = λ s at. alone;
      is_word_lem = λ s cell word. alone;
      says_words_lem = λ s cells x y z. alone;
      number_of = λ s cell. alone;
    }

pub text_unique : TextUnique
text_unique =
    record {
      put = λ list at byte. one_written;
      put_bytes = λ list at bytes. one_written;
      put_number = λ list at n. one_written;
      put_row = λ list at first numbers. one_written;
      prints = λ text list. one_printed;
      print = λ g put text list puts x y p q. one_printed x y (p text puts) (q text puts);
      printed_number = λ p. alone;
    }
