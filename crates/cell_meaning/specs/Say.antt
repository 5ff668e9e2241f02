-- What a field says, by its content: a word, or a proper number. 01, "Site sheet".
use Rattle.std.specs.Prelude.{ℕ, ◌+◌, ◌-◌, ◌*◌, ◌≤◌, ◌<◌, ◌≡◌, Bool, true, false, cond, List, [], ◌∷◌, length, get_or, take, drop, leb, ltb, eqb, Option, Some, None}
use Rattle.grammar.specs.Sizes.{width}
use Rattle.grammar.specs.declared.cut.Cell.{Cell}
use Rattle.grammar.specs.declared.cut.Cells.{Cells}

pub record Digit (b : ℕ) : Type 0 where
  pub from : 48 ≤ b
  pub to : b ≤ 57

-- the value of digits read from the left, behind those that make n
unfoldable pub value_from : ℕ → List ℕ → ℕ
value_from n [] = n
value_from n (b ∷ bs) = value_from (n * 10 + (b - 48)) bs

pub record ProperNumber (c : List ℕ) (n : ℕ) : Type 0 where
  pub some : 1 ≤ length c
  pub few : length c ≤ width
  pub digits : (i : ℕ) → i < length c → Digit (get_or c i 0)
  pub no_needless_zero : get_or c 0 0 ≡ 48 → length c ≤ 1
  pub value : n ≡ value_from 0 c

-- the same as a test
unfoldable pub digits_from : ℕ → List ℕ → Option ℕ
digits_from n [] = Some n
digits_from n (b ∷ bs) = cond (ltb b 48) None (cond (ltb 57 b) None (digits_from (n * 10 + (b - 48)) bs))

unfoldable pub needless_zero : List ℕ → Bool
needless_zero c = cond (ltb (length c) 2) false (eqb (get_or c 0 0) 48)

unfoldable pub number_in : List ℕ → Option ℕ
number_in c = cond (eqb (length c) 0) None (cond (ltb width (length c)) None (cond (needless_zero c) None (digits_from 0 c)))

-- the bytes of a cell; none where it doesn't lie in the sheet
unfoldable pub content_at : List ℕ → Cell → List ℕ
content_at s cell =
    cond (leb cell.start cell.end)
    (cond (leb cell.end (length s)) (take (cell.end - cell.start) (drop cell.start s)) []) []

unfoldable pub same_bytes : List ℕ → List ℕ → Bool
same_bytes [] [] = true
same_bytes [] (y ∷ ys) = false
same_bytes (x ∷ xs) [] = false
same_bytes (x ∷ xs) (y ∷ ys) = cond (eqb x y) (same_bytes xs ys) false

-- a field with a doubled quote in it is no word and no number
unfoldable pub is_word : List ℕ → Cell → List ℕ → Bool
is_word s cell word = cond cell.doubled false (same_bytes (content_at s cell) word)

unfoldable pub number_at : List ℕ → Cell → Option ℕ
number_at s cell = cond cell.doubled None (number_in (content_at s cell))

-- the place of a content among some words, counted from 0; behind them all where it is none of them
unfoldable pub place_in : List (List ℕ) → List ℕ → ℕ
place_in [] c = 0
place_in (word ∷ words) c = cond (same_bytes c word) 0 (place_in words c + 1)

-- the same of a field; one with a doubled quote in it is no word
unfoldable pub place_among : List (List ℕ) → List ℕ → Cell → ℕ
place_among words s cell = cond cell.doubled (length words) (place_in words (content_at s cell))

-- what the place of a field's word gives, where the words are those from place n on
unfoldable pub named_from : {A : Type 0} → (ℕ → A) → ℕ → List (List ℕ) → List ℕ → Cell → A
named_from f n words s cell = f (n + place_among words s cell)

-- a row of three fields, and they are these words
unfoldable pub says_words : List ℕ → Cells → List ℕ → List ℕ → List ℕ → Bool
says_words s cells first second third =
    cond (eqb cells.count 3)
    (cond (is_word s cells.first first) (cond (is_word s cells.second second) (is_word s cells.third third) false) false) false
