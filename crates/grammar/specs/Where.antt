-- Where the fields of a written row lie in a sheet: the cells that a cutter tells of it.
use Rattle.std.specs.Prelude.{ℕ, ◌+◌, ◌≤◌, ◌≡◌, Bool, true, false, cond, List, [], ◌∷◌, ◌++◌, length, get_or, drop, eqb}
use Rattle.grammar.specs.declared.cut.Cell.{Cell}
use Rattle.grammar.specs.declared.cut.Cells.{Cells}
use Rattle.grammar.specs.Grammar.{quote, Field, bare, quoted, escape, field_text, Row, only, ◌then◌, fields}
use Rattle.grammar.specs.Cut.{pushed}

-- the content holds a quote, which is doubled where the field is written
unfoldable pub holds_quote : List ℕ → Bool
holds_quote [] = false
holds_quote (b ∷ bs) = cond (eqb b quote) true (holds_quote bs)

-- the cell of a field that begins at byte i: a bare field's content is its bytes, a quoted field's lies between the quotes
unfoldable pub cell_of : ℕ → Field → Cell
cell_of i (bare c) = record { start = i; end = i + length c; doubled = false }
cell_of i (quoted c) = record { start = i + 1; end = i + 1 + length (escape c); doubled = holds_quote c }

-- the cells of a row that begins at byte i, behind those already there
unfoldable pub cells_of : Cells → ℕ → Row → Cells
cells_of cells i (only f) = pushed cells (cell_of i f)
cells_of cells i (f then r) = cells_of (pushed cells (cell_of i f)) (i + length (field_text f) + 1) r

-- the field of a row at a place, counted from 0
abbrev pub field_of : ℕ → Row → Field
field_of k r = get_or (fields r) k (bare [])

-- a cell of the sheet s holds the field f: f stands in s, and this is its cell there
pub record CellHolds (s : List ℕ) (cell : Cell) (f : Field) : Type 0 where
  pub at : ℕ
  pub within : at ≤ length s
  pub behind : List ℕ
  pub there : drop at s ≡ field_text f ++ behind
  pub is : cell ≡ cell_of at f

-- the cells of the sheet s hold the row r: as many as it has fields, and the first three of them
pub record RowHolds (s : List ℕ) (cells : Cells) (r : Row) : Type 0 where
  pub count : cells.count ≡ length (fields r)
  pub first : CellHolds s cells.first (field_of 0 r)
  pub second : 2 ≤ cells.count → CellHolds s cells.second (field_of 1 r)
  pub third : 3 ≤ cells.count → CellHolds s cells.third (field_of 2 r)
