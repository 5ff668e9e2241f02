-- What is told of a number that was asked for: it has at most three digits, or there is none. Assumes nothing.
use Prim.Native.Nat.{ℕ}
use mathlib.Core.Path.{◌≡◌, sym}
use mathlib.Core.List.{List}
use Rattle.std.specs.Prelude.{Option, Some, None}
use Rattle.std.specs.Option.{unwrap_or}
use Rattle.grammar.specs.declared.cut.Cell.{Cell}
use Rattle.cell_meaning.specs.Say.{number_at}
use Rattle.cell_meaning.proofs.Saying.{number_small}
use Rattle.program_io.specs.{Asked, given, none}

pub asked_of : (s : List ℕ) (cell : Cell) (otherwise : ℕ) (told : Option ℕ) → told ≡ number_at s cell → Asked otherwise (unwrap_or told otherwise)
asked_of s cell otherwise (Some n) e = given (number_small s cell (sym e))
asked_of s cell otherwise None e = none
