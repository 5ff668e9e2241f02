-- `cut_field` meets its contract. The invariant of its loop: the answer from byte i on is the answer from the start.
-- Assumes nothing.
use mathlib.Core.Path.{◌≡◌, sym, ◌∙◌}
use native.Mathlib.Omega.{arith}
use Rattle.grammar.proofs.Steps.{field_turn, field_end}
use Rattle.grammar.specs.Cut.{cut_field}
use Rattle.sheet.proofs.cut.cut_field.Goals as goal

pub loop-i-init : goal.loop-i-init
unfolding cut_field
loop-i-init c = (omega arith, rw c.empty_at-cell.ensures)

pub loop-i-preserved : goal.loop-i-preserved
loop-i-preserved c = (omega arith, field_turn _ _ _ _ c.loop-i.invariant.1 c.loop-i-test.true (sym c.advance.ensures ∙ c.in-Go.is))

pub returns-in-NextField : goal.returns-in-NextField
returns-in-NextField c = sym (field_turn _ _ _ _ c.loop-i.invariant.1 c.loop-i-test.true (sym c.advance.ensures ∙ c.in-NextField.is))

pub returns-in-RowEnd : goal.returns-in-RowEnd
returns-in-RowEnd c = sym (field_turn _ _ _ _ c.loop-i.invariant.1 c.loop-i-test.true (sym c.advance.ensures ∙ c.in-RowEnd.is))

pub returns-in-Wrong : goal.returns-in-Wrong
returns-in-Wrong c = sym (field_turn _ _ _ _ c.loop-i.invariant.1 c.loop-i-test.true (sym c.advance.ensures ∙ c.in-Wrong.is))

pub returns : goal.returns
returns c =
    let e : c.max.result ≡ c.loop-i.i = omega (arith, c.max.ensures, c.loop-i.invariant.0) in
    rw e at c.at_end.ensures ∙ sym (c.loop-i.invariant.1 ∙ field_end _ _ _ _ c.loop-i-test.false)
