-- The theorems of the crate `cell_meaning`: what the tests of specs/Say.antt answer of a cell is what its field's content says.
-- Assumes nothing.
use Prim.Native.Nat.{ℕ, ◌<◌}
use mathlib.Core.Path.{◌≡◌}
use mathlib.Core.Logic.{◌↔◌}
use mathlib.Core.Bool.{false, true}
use mathlib.Core.List.{List, [], ◌∷◌}
use lib.ListN.{length}
use Rattle.std.specs.Prelude.{Some}
use Rattle.grammar.specs.declared.cut.Cell.{Cell}
use Rattle.grammar.specs.declared.cut.Cells.{Cells}
use Rattle.grammar.specs.Grammar.{Field, content, Row}
use Rattle.grammar.specs.Where.{holds_quote, CellHolds, RowHolds}
use Rattle.cell_meaning.specs.Say.{ProperNumber, is_word, says_words, number_at, place_among}
use Rattle.cell_meaning.specs.Meaning.{Threefold, WordAt}
use Rattle.cell_meaning.proofs.Contents as contents
use Rattle.cell_meaning.proofs.Naming as naming

module _ (s : List ℕ) where
  -- A field is a word without quotes exactly when its content is.
  pub word_is_content : {cell : Cell} (f : Field) (word : List ℕ) → CellHolds s cell f → holds_quote word ≡ false
      → (is_word s cell word ≡ true) ↔ (content f ≡ word)
  word_is_content f word h n = contents.word_exact s f word h n

  -- A field is found at a place among words without quotes exactly when its content is the word there, and no word before it.
  pub word_is_found : {cell : Cell} (f : Field) (words : List (List ℕ)) (n : ℕ) → CellHolds s cell f → naming.NoQuotes words → n < length words
      → (place_among words s cell ≡ n) ↔ WordAt words (content f) n
  word_is_found f words n h plain l = naming.place_exact s f words n h plain l

  -- A field is a word exactly when it is found among that word alone: a header's three words are found as every other word is.
  pub word_is_found_alone : (cell : Cell) (word : List ℕ) → (is_word s cell word ≡ true) ↔ (place_among (word ∷ []) s cell ≡ 0)
  word_is_found_alone cell word = naming.word_alone s cell word

  -- A row says three words without quotes exactly when it has three fields with these contents.
  pub words_are_contents : {cells : Cells} (r : Row) (x y z : List ℕ) → RowHolds s cells r → holds_quote x ≡ false → holds_quote y ≡ false → holds_quote z ≡ false
      → (says_words s cells x y z ≡ true) ↔ Threefold r x y z
  words_are_contents r x y z h a b c = contents.words_exact s r x y z h a b c

  -- A number is read exactly when the field's content is a proper number, with its value.
  pub number_is_proper : {cell : Cell} (f : Field) (n : ℕ) → CellHolds s cell f → (number_at s cell ≡ Some n) ↔ ProperNumber (content f) n
  number_is_proper f n h = contents.number_exact s f n h
