-- The theorems of the crate `grammar`: the cutters' answers are what the grammar says.
-- Assumes nothing.
use Prim.Native.Nat.{ℕ, ◌+◌, ◌-◌, ◌≤◌}
use native.Mathlib.Omega.{arith}
use mathlib.Core.Path.{◌≡◌, refl, ap, ◌∙◌}
use mathlib.Core.Logic.{◌↔◌}
use mathlib.Core.List.{List, [], ◌∷◌, ◌++◌}
use lib.ListN.{length, drop}
use Rattle.grammar.specs.declared.cut.Cells.{Cells}
use Rattle.grammar.specs.declared.cut.Mode.TheVariants.{Fresh}
use Rattle.grammar.specs.declared.cut.FieldCut.TheVariants.{Next, Last, Fault}
use Rattle.grammar.specs.declared.cut.RowCut.TheVariants.{Cut, NoRow, Broken}
use Rattle.std.specs.Prelude.{Ok, Err}
use Rattle.grammar.specs.Grammar.{comma, cr, lf, Field, Written, field_text, Row, WrittenRow, row_text, RowAt, ended, last, Sheet, BeginsWith}
use Rattle.grammar.specs.Cut.{empty_at, no_cells, field_from, cut_field, cut_row}
use Rattle.grammar.specs.Where.{cell_of, cells_of}
use Rattle.grammar.specs.Rows.{on_row, rows_from, broken_at, count_rows}
use Rattle.grammar.specs.Meaning.{CutRow, SheetOf, BrokenRow, BrokenAfter, FirstFieldFault}
use Rattle.grammar.proofs.Written as written
use Rattle.grammar.proofs.Found as found
use Rattle.grammar.proofs.Unique as unique
use Rattle.grammar.proofs.Reading as reading
use Rattle.grammar.proofs.Exact as exact
use Rattle.grammar.proofs.Whole as whole
use Rattle.grammar.proofs.Fields as broken

module _ (s : List ℕ) (at : ℕ) where
  -- The row cutter finds the row that the grammar has at a position, with the cells of its fields, and goes on behind it.
  pub row_is_found : {r : Row} {rest : List ℕ} → RowAt (drop at s) r rest → cut_row s at ≡ Cut (cells_of no_cells at r) (length s - length rest)
  row_is_found a = exact.row_is_cut s at a

  -- It finds a row only where the grammar has one: the cells hold that row's fields and lie where the row lies, and the rest of the
  -- sheet begins at `next`.
  pub found_is_row : {cells : Cells} {next : ℕ} → cut_row s at ≡ Cut cells next → CutRow s at cells next
  found_is_row e = exact.cut_is_row s at e

  -- It finds none exactly at the sheet's end and behind it.
  pub behind_no_row : (cut_row s at ≡ NoRow) ↔ (length s ≤ at)
  behind_no_row = (reading.none_behind s at, reading.cut_behind s at)

  -- It reports a fault at a byte exactly when bytes are left, they begin with no row, and that byte is the first at which no
  -- continuation could be a well-formed row behind the rows so far, or the sheet's length where it ends too soon.
  pub fault_is_first : (rs : List Row) → BeginsWith s rs (drop at s) → (byte : ℕ) → (cut_row s at ≡ Broken byte) ↔ BrokenRow s rs (drop at s) byte
  fault_is_first rs l byte = whole.fault_exact s at rs l byte

  -- A reader goes over the rows in their order: what is read from a position on is the row there, and then what is read from
  -- behind it.
  pub reader_goes_on : rows_from s at ≡ on_row (cut_row s at) (rows_from s)
  reader_goes_on = reading.rows_next s at

-- Every row that the grammar can write is cut back to itself, with or without the CRLF behind it.
module _ (r : Row) (w : WrittenRow r) where
  pub round_trip : (rest : List ℕ) → cut_row (row_text r ++ (cr ∷ lf ∷ rest)) 0 ≡ Cut (cells_of no_cells 0 r) (length (row_text r ++ (cr ∷ lf ∷ rest)) - length rest)
  round_trip rest = exact.row_is_cut (row_text r ++ (cr ∷ lf ∷ rest)) 0 (ended w refl)

  -- Without it a row of no bytes at all is none.
  pub round_trip_last : (row_text r ≡ [] → ⊥) → cut_row (row_text r) 0 ≡ Cut (cells_of no_cells 0 r) (length (row_text r))
  round_trip_last n =
      let m : length (row_text r) - 0 ≡ length (row_text r) = omega arith in
      exact.row_is_cut (row_text r) 0 (last w refl n) ∙ ap (Cut (cells_of no_cells 0 r)) m

-- A sheet has one list of rows.
pub one_reading : {text : List ℕ} {rs ss : List Row} → Sheet text rs → Sheet text ss → rs ≡ ss
one_reading a b = unique.rows_unique a b

module _ (s : List ℕ) where
  -- The rows are counted whole exactly when the text is a sheet, and then they are its rows.
  pub counted_is_sheet : (n : ℕ) → (count_rows s ≡ Ok n) ↔ SheetOf s n
  counted_is_sheet n = whole.count_exact s n

  -- They are counted up to a row exactly when they are the rows in front of one that is broken, with the byte where that breaks.
  pub counted_up_to : (n byte : ℕ) → (count_rows s ≡ Err (broken_at n byte)) ↔ BrokenAfter s n byte
  counted_up_to n byte = whole.count_broken s n byte

module _ (s : List ℕ) (at : ℕ) (f : Field) (w : Written f) where
  field_read : (t : List ℕ) → drop at s ≡ field_text f ++ t → cut_field s at ≡ field_from (written.mode_after f) (cell_of at f) (at + length (field_text f)) t
  unfolding cut_field
  field_read t e = rw e (written.field_run written.field_steps f at t w)

  -- The field cutter finds a written field, told by what stands behind it: a comma, a CRLF, or the sheet's end.
  pub field_before_comma : (t : List ℕ) → drop at s ≡ field_text f ++ (comma ∷ t) → cut_field s at ≡ Next (cell_of at f) (at + length (field_text f) + 1)
  field_before_comma t e = field_read (comma ∷ t) e ∙ written.field_comma (cell_of at f) (at + length (field_text f)) t (written.rest_after f)

  pub field_before_crlf : (t : List ℕ) → drop at s ≡ field_text f ++ (cr ∷ lf ∷ t) → cut_field s at ≡ Last (cell_of at f) (at + length (field_text f) + 2)
  field_before_crlf t e =
      let n : at + length (field_text f) + 1 + 1 ≡ at + length (field_text f) + 2 = omega arith in
      field_read (cr ∷ lf ∷ t) e ∙ written.field_crlf (cell_of at f) (at + length (field_text f)) t (written.rest_after f) ∙ ap (Last (cell_of at f)) n

  pub field_before_end : drop at s ≡ field_text f ++ [] → cut_field s at ≡ Last (cell_of at f) (at + length (field_text f))
  field_before_end e = field_read [] e ∙ written.field_last (cell_of at f) (at + length (field_text f)) (written.rest_after f)

-- And it finds only written fields: a comma, or a CRLF or the sheet's end, stands behind one.
pub found_is_field : (s : List ℕ) (at : ℕ) → found.FieldFound (drop at s) (cut_field s at)
unfolding cut_field
found_is_field s at = found.field_found (drop at s) Fresh (empty_at at) at found.in_fresh

-- It reports a fault at a byte exactly when that byte is the first at which no continuation could be a well-formed field, or the
-- sheet's length where it ends too soon.
pub field_fault_is_first : (s : List ℕ) (at byte : ℕ) → (cut_field s at ≡ Fault byte) ↔ FirstFieldFault s at byte
field_fault_is_first s at byte = broken.field_fault_exact s at byte
