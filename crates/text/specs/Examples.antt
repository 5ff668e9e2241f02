-- Small texts: numbers at the ends of their widths, rows, a text in lists of three lengths.
use Rattle.std.specs.Prelude.{◌≡◌, [], ◌∷◌, Ok, Err}
use Rattle.text.specs.Text.{decimal, row_of_numbers}
use Rattle.text.specs.Wrote.{last_place, behind}
use Rattle.text.specs.Printed.{printed_of, written}
use Rattle.findings.specs.Told.{printed_no, too_short}

pub record TextExamples : Type 0 where
  -- 0, 9, 10 and 307: no number begins with a needless zero
  pub numbers_written : (decimal 0 ≡ 48 ∷ []) × (decimal 9 ≡ 57 ∷ []) × (decimal 10 ≡ 49 ∷ 48 ∷ []) × (decimal 307 ≡ 51 ∷ 48 ∷ 55 ∷ [])
  -- `5` and `1,20`, each with CRLF
  pub rows_written : (row_of_numbers 5 [] ≡ 53 ∷ 13 ∷ 10 ∷ []) × (row_of_numbers 1 (20 ∷ []) ≡ 49 ∷ 44 ∷ 50 ∷ 48 ∷ 13 ∷ 10 ∷ [])
  -- behind a place, and behind the last
  pub places : (behind 7 2 ≡ 9) × (behind last_place 2 ≡ last_place)
  -- a text in a list that is longer, in one of its own length, and in one that is too short, which is as it was: 13
  pub in_a_longer : (printed_of (7 ∷ []) (8 ∷ 9 ∷ []) ≡ Ok 1) × (written (7 ∷ []) (8 ∷ 9 ∷ []) ≡ 7 ∷ 9 ∷ [])
  pub in_its_own : (printed_of (7 ∷ []) (8 ∷ []) ≡ Ok 1) × (written (7 ∷ []) (8 ∷ []) ≡ 7 ∷ [])
  pub in_a_shorter : (printed_of (6 ∷ 7 ∷ []) (8 ∷ []) ≡ Err too_short) × (written (6 ∷ 7 ∷ []) (8 ∷ []) ≡ 8 ∷ [])
  pub numbers : (printed_no (Ok 1) ≡ 0) × (printed_no (Err too_short) ≡ 13)
