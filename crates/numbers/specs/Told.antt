-- What is told, or why it isn't: its number.
use Rattle.std.specs.Prelude.{ℕ, Result, Ok, Err}
use Rattle.numbers.specs.Numbers.{done_no}

-- "0: done" where something is told, and else the number of the refusal
abbrev pub told_no : {T E : Type 0} → (E → ℕ) → Result T E → ℕ
told_no refusal_no (Ok told) = done_no
told_no refusal_no (Err refusal) = refusal_no refusal
