-- What the beginning of a steps sheet is. 01, "Program and one whole run".
use Rattle.std.specs.Prelude.{ℕ, Result, Ok, Err}
use Rattle.numbers.specs.Numbers.{too_long_no, bad_form_no}
use Rattle.steps_sheet.specs.declared.Unheaded.{Unheaded}
use Rattle.steps_sheet.specs.declared.Unheaded.TheVariants as unheaded

pub data Heading : Type 0 where
  -- over the limit
  TooLong : Heading
  -- not the header
  Wrong : Heading
  -- the header; the first data row begins there
  Rows : ℕ → Heading

-- the same as it is told: where the first data row begins, or why none is run
abbrev pub heading_told : Heading → Result ℕ Unheaded
heading_told TooLong = Err unheaded.TooLong
heading_told Wrong = Err unheaded.Wrong
heading_told (Rows from) = Ok from

-- "sheet over 49,152 bytes", "wrong header"
abbrev pub unheaded_no : Unheaded → ℕ
unheaded_no unheaded.TooLong = too_long_no
unheaded_no unheaded.Wrong = bad_form_no
