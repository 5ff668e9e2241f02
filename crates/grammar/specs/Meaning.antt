-- What the theorems of proofs/Theorems.antt say of the cutters' answers, in terms of the grammar alone.
use Rattle.std.specs.Prelude.{ℕ, ◌+◌, ◌-◌, ◌≤◌, ◌<◌, ◌≡◌, List, [], ◌∷◌, ◌++◌, length, take, drop}
use Rattle.grammar.specs.declared.cut.Cells.{Cells}
use Rattle.grammar.specs.Grammar.{Field, FieldAt, Row, RowAt, Sheet, BeginsWith}
use Rattle.grammar.specs.Cut.{no_cells}
use Rattle.grammar.specs.Where.{cells_of, RowHolds}

-- a row that was cut: the grammar has a row there, the cells hold it and lie where it lies, and `next` is where the rest begins
pub record CutRow (s : List ℕ) (at : ℕ) (cells : Cells) (next : ℕ) : Type 0 where
  pub row : Row
  pub rest : List ℕ
  pub there : RowAt (drop at s) row rest
  pub holds : RowHolds s cells row
  pub lies : cells ≡ cells_of no_cells at row
  pub next_is : next ≡ length s - length rest
  pub behind : drop next s ≡ rest

-- a text is a sheet of so many rows
pub record SheetOf (s : List ℕ) (n : ℕ) : Type 0 where
  pub rows : List Row
  pub is : Sheet s rows
  pub count : length rows ≡ n

-- the byte told is the first at which no continuation could be a well-formed row behind the rows so far
pub record FirstFault (s : List ℕ) (rs : List Row) (byte : ℕ) : Type 0 where
  pub within : byte ≤ length s
  -- up to it some continuation is a sheet with one row more
  pub mend : List ℕ
  pub next : Row
  pub mended : Sheet (take byte s ++ mend) (rs ++ (next ∷ []))
  -- with it none is a sheet with a row more
  pub hopeless : (other : List ℕ) (r : Row) (more : List Row) → byte < length s → Sheet (take (byte + 1) s ++ other) (rs ++ (r ∷ more)) → ⊥
  -- where the sheet ends too soon, it is no sheet with a row more itself
  pub too_soon : (r : Row) (more : List Row) → Sheet s (rs ++ (r ∷ more)) → ⊥

-- behind the rows so far a text has bytes left, they begin with no row, and this is the byte at which the row there breaks
pub record BrokenRow (s : List ℕ) (rs : List Row) (rest : List ℕ) (byte : ℕ) : Type 0 where
  pub some : rest ≡ [] → ⊥
  pub no_row : (r : Row) (behind : List ℕ) → RowAt rest r behind → ⊥
  pub first : FirstFault s rs byte

-- a text has so many rows, and then one that is broken at this byte
pub record BrokenAfter (s : List ℕ) (n byte : ℕ) : Type 0 where
  pub rows : List Row
  pub rest : List ℕ
  pub count : length rows ≡ n
  pub leads : BeginsWith s rows rest
  pub broken : BrokenRow s rows rest byte

-- the byte told is the first at which no continuation could be a well-formed field that begins at `at`
pub record FirstFieldFault (s : List ℕ) (at byte : ℕ) : Type 0 where
  pub from : at ≤ byte
  pub within : byte ≤ length s
  -- up to it some continuation has a field there
  pub mend : List ℕ
  pub field : Field
  pub mended : FieldAt (drop at (take byte s ++ mend)) field
  -- with it none has
  pub hopeless : (other : List ℕ) (f : Field) → byte < length s → FieldAt (drop at (take (byte + 1) s ++ other)) f → ⊥
  -- where the sheet ends too soon, it has none itself
  pub too_soon : (f : Field) → FieldAt (drop at s) f → ⊥
