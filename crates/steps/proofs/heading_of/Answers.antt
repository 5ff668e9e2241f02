-- `heading_of` meets its contract: the length, then the first row. Assumes nothing.
use Prim.Native.Nat.{ℕ}
use mathlib.Core.List.{List}
use mathlib.Core.Path.{◌≡◌, refl}
use borrow.Author.Tests.{le-ltb}
use native.Mathlib.Omega.{arith}
use lib.ListN.{length}
use Rattle.grammar.specs.Sizes.{limit}
use Rattle.grammar.specs.declared.cut.Cells.{Cells}
use Rattle.grammar.specs.declared.cut.RowCut.{RowCut}
use Rattle.grammar.specs.declared.cut.RowCut.TheVariants.{Cut, NoRow, Broken}
use Rattle.steps_sheet.specs.Heading.{Wrong}
use Rattle.steps_sheet.specs.Steps.{headed, heading_at}
use Rattle.steps.proofs.heading_of.Goals as goal

-- what isn't a row is no header
no_row : (s : List ℕ) (cut : RowCut) → ((cells : Cells) (next : ℕ) → cut ≡ Cut cells next → ⊥) → headed s cut ≡ Wrong
no_row s (Cut cells next) none = absurd (none cells next refl)
no_row s NoRow none = refl
no_row s (Broken byte) none = refl

pub returns-in_default : goal.returns-in_default
unfolding heading_at
returns-in_default c =
    rw (le-ltb limit (length c.args.s.now) (omega (arith, c.if-s-gt-LIMIT.false)), ← c.row_at.ensures, no_row c.args.s.now c.row_at.result c.in_default.not-Cut)
