-- What the cutters answer, worked out byte by byte. That this is what the grammar says is proved in proofs/Theorems.antt.
use Rattle.std.specs.Prelude.{ℕ, ◌+◌, Bool, true, false, cond, List, [], ◌∷◌, length, drop, ltb, eqb}
use Rattle.grammar.specs.Grammar.{quote, comma, cr, lf}
use Rattle.grammar.specs.declared.cut.Mode.{Mode}
use Rattle.grammar.specs.declared.cut.Mode.TheVariants.{Fresh, Bare, Open, Shut, Return}
use Rattle.grammar.specs.declared.cut.Cell.{Cell}
use Rattle.grammar.specs.declared.cut.ByteMove.{ByteMove}
use Rattle.grammar.specs.declared.cut.ByteMove.TheVariants.{Go, NextField, RowEnd, Wrong}
use Rattle.grammar.specs.declared.cut.FieldCut.{FieldCut}
use Rattle.grammar.specs.declared.cut.FieldCut.TheVariants.{Next, Last, Fault}
use Rattle.grammar.specs.declared.cut.Cells.{Cells}
use Rattle.grammar.specs.declared.cut.RowCut.{RowCut}
use Rattle.grammar.specs.declared.cut.RowCut.TheVariants.{Cut, NoRow, Broken}

-- the cell of a field of which no byte has come yet
abbrev pub empty_at : ℕ → Cell
empty_at at = record { start = at; end = at; doubled = false }

-- the cell with its content reaching up to `next`
abbrev pub up_to : Cell → ℕ → Bool → Cell
up_to cell next doubled = record { start = cell.start; end = next; doubled = doubled }

-- what a byte does in each mode; the byte behind it is at `next`
unfoldable pub bare_move : Cell → ℕ → ℕ → ByteMove
bare_move cell b next = cond (eqb b comma) NextField (cond (eqb b cr) (Go Return cell) (cond (eqb b lf) Wrong (Go Bare (up_to cell next false))))

unfoldable pub shut_move : Cell → ℕ → ℕ → ByteMove
shut_move cell b next = cond (eqb b quote) (Go Open (up_to cell next true)) (cond (eqb b comma) NextField (cond (eqb b cr) (Go Return cell) Wrong))

unfoldable pub move_of : Mode → Cell → ℕ → ℕ → ByteMove
move_of Fresh cell b next = cond (eqb b quote) (Go Open (empty_at next)) (bare_move cell b next)
move_of Bare cell b next = cond (eqb b quote) Wrong (bare_move cell b next)
move_of Open cell b next = cond (eqb b quote) (Go Shut cell) (Go Open (up_to cell next cell.doubled))
move_of Shut cell b next = shut_move cell b next
move_of Return cell b next = cond (eqb b lf) RowEnd Wrong

-- a field that the sheet ends in
unfoldable pub end_of : Mode → Cell → ℕ → FieldCut
end_of Fresh cell len = Last cell len
end_of Bare cell len = Last cell len
end_of Open cell len = Fault len
end_of Shut cell len = Last cell len
end_of Return cell len = Fault len

abbrev pub after_move {ℓ} : {A : Type ℓ} → ByteMove → (Mode → Cell → A) → A → A → A → A
after_move (Go mode cell) go next last wrong = go mode cell
after_move NextField go next last wrong = next
after_move RowEnd go next last wrong = last
after_move Wrong go next last wrong = wrong

-- the rest of a field, from byte i on
unfoldable pub field_from : Mode → Cell → ℕ → List ℕ → FieldCut
field_from mode cell i [] = end_of mode cell i
field_from mode cell i (b ∷ bs) =
    after_move (move_of mode cell b (i + 1)) (λ m c. field_from m c (i + 1) bs) (Next cell (i + 1)) (Last cell (i + 1)) (Fault i)

unfoldable pub cut_field : List ℕ → ℕ → FieldCut
cut_field s at = field_from Fresh (empty_at at) at (drop at s)

-- the fields with one more behind them: the first three keep their places
unfoldable pub pushed : Cells → Cell → Cells
pushed cells cell = record {
  count = cells.count + 1;
  first = cond (eqb cells.count 0) cell cells.first;
  second = cond (eqb cells.count 1) cell cells.second;
  third = cond (eqb cells.count 2) cell cells.third;
}

abbrev pub no_cells : Cells
no_cells = record { count = 0; first = empty_at 0; second = empty_at 0; third = empty_at 0 }

-- a row whose last field is this
abbrev pub row_end : Cells → FieldCut → RowCut
row_end cells (Next cell next) = Broken next
row_end cells (Last cell next) = Cut (pushed cells cell) next
row_end cells (Fault byte) = Broken byte

-- the rest of a row, from byte i on
unfoldable pub row_from : Mode → Cell → Cells → ℕ → List ℕ → RowCut
row_from mode cell cells i [] = row_end cells (end_of mode cell i)
row_from mode cell cells i (b ∷ bs) =
    after_move (move_of mode cell b (i + 1)) (λ m c. row_from m c cells (i + 1) bs) (row_from Fresh (empty_at (i + 1)) (pushed cells cell) (i + 1) bs)
    (Cut (pushed cells cell) (i + 1)) (Broken i)

unfoldable pub cut_row : List ℕ → ℕ → RowCut
cut_row s at = cond (ltb at (length s)) (row_from Fresh (empty_at at) no_cells at (drop at s)) NoRow
