-- The rows of a sheet one after the other, up to the first that is broken.
use Rattle.std.specs.Prelude.{ℕ, zero, suc, ◌+◌, ◌-◌, List, length, Result, Ok, Err}
use Rattle.grammar.specs.declared.cut.Cells.{Cells}
use Rattle.grammar.specs.declared.cut.RowCut.{RowCut}
use Rattle.grammar.specs.declared.cut.RowCut.TheVariants.{Cut, NoRow, Broken}
use Rattle.grammar.specs.declared.count.BrokenSheet.{BrokenSheet}
use Rattle.grammar.specs.Cut.{cut_row}

-- what is read from a position on: no more rows, a row broken at a byte, or a row's cells and what is read behind it
pub data Rows : Type 0 where
  no_more : Rows
  broken : ℕ → Rows
  row : Cells → Rows → Rows

abbrev pub on_row : RowCut → (ℕ → Rows) → Rows
on_row (Cut cells next) behind = row cells (behind next)
on_row NoRow behind = no_more
on_row (Broken byte) behind = broken byte

-- a row takes a byte at least, so that a sheet has no more rows than bytes
unfoldable pub read_rows : ℕ → List ℕ → ℕ → Rows
read_rows zero s at = no_more
read_rows (suc most) s at = on_row (cut_row s at) (λ next. read_rows most s next)

unfoldable pub rows_from : List ℕ → ℕ → Rows
rows_from s at = read_rows (suc (length s - at)) s at

-- so many rows, and then one that is broken at this byte
abbrev pub broken_at : ℕ → ℕ → BrokenSheet
broken_at rows byte = record { rows = rows; byte = byte }

unfoldable pub count_from : ℕ → Rows → Result ℕ BrokenSheet
count_from n no_more = Ok n
count_from n (broken byte) = Err (broken_at n byte)
count_from n (row cells rows) = count_from (n + 1) rows

unfoldable pub count_rows : List ℕ → Result ℕ BrokenSheet
count_rows s = count_from 0 (rows_from s 0)
