-- `sheet::cut::cut_fields` meets its contract. The invariant of its loop: the answer from the field at i on is the answer from the start.
-- Assumes nothing.
use mathlib.Core.Path.{sym, ◌∙◌}
use native.Mathlib.Omega.{arith}
use borrow.Author.Tests.{le-ltb}
use Rattle.grammar.specs.Cut.{cut_row}
use Rattle.grammar.proofs.Steps.{row_start, row_turn, row_more, field_within}
use Rattle.sheet.proofs.cut.cut_fields.Goals as goal

pub returns-then-s-at : goal.returns-then-s-at
unfolding cut_row
returns-then-s-at c = simp (le-ltb _ _ c.if-s-at.true)

pub loop-cell-init : goal.loop-cell-init
loop-cell-init c = rw c.no_cells-cells.ensures (row_start _ _ c.if-s-at.false)

pub loop-cell-smaller : goal.loop-cell-smaller
loop-cell-smaller c = let w = field_within c.loop-cell.invariant (sym c.cut_field.ensures ∙ c.in-Next.is) in omega arith

pub loop-cell-preserved : goal.loop-cell-preserved
loop-cell-preserved c = rw c.push-cells.ensures (row_more c.loop-cell.invariant (sym c.cut_field.ensures ∙ c.in-Next.is))

pub returns-in-Last : goal.returns-in-Last
returns-in-Last c = rw c.push.ensures (sym (row_turn c.loop-cell.invariant (sym c.cut_field.ensures ∙ c.in-Last.is)))

pub returns-in-Fault : goal.returns-in-Fault
returns-in-Fault c = sym (row_turn c.loop-cell.invariant (sym c.cut_field.ensures ∙ c.in-Fault.is))
