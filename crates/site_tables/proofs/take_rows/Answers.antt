-- `site_tables::take_rows` meets its contract. The invariant of its loop: the answer from the row at `at` on is the answer from the start.
-- Assumes nothing.
use mathlib.Core.Path.{sym, ap, ◌∙◌}
use native.Mathlib.Omega.{arith}
use Rattle.grammar.proofs.Reading.{cut_there}
use Rattle.site_lines.specs.Draft.{Reading, take_line}
use Rattle.site_lines.specs.Taking.{lines_in, read_lines}
use Rattle.site_lines.proofs.Loop.{read_turn, read_stop, read_more, stop_is}
use Rattle.site_tables.proofs.take_rows.Goals as goal

pub returns-in-Err-clause-told : goal.returns-in-Err-clause-told
returns-in-Err-clause-told c = stop_is _ c.in-Err.fault (read_stop c.loop-cells.invariant (sym c.row_at.ensures ∙ c.in-Cut.is) (c.take.ensures ∙ ap (take_line _) c.site_line_of-line.ensures) c.in-Err.is)

pub returns-in-Err-clause-draft : goal.returns-in-Err-clause-draft
returns-in-Err-clause-draft c =
    sym (ap (λ (r : Reading). r.draft) (read_stop c.loop-cells.invariant (sym c.row_at.ensures ∙ c.in-Cut.is) (c.take.ensures ∙ ap (take_line _) c.site_line_of-line.ensures) c.in-Err.is))

pub overflow_add-row : goal.overflow_add-row
overflow_add-row c = let w = cut_there _ _ (sym c.row_at.ensures ∙ c.in-Cut.is) in let f = c.loop-cells.invariant.few in omega (arith, c.well_formed)

pub loop-cells-smaller : goal.loop-cells-smaller
loop-cells-smaller c = let w = cut_there _ _ (sym c.row_at.ensures ∙ c.in-Cut.is) in omega arith

pub loop-cells-preserved : goal.loop-cells-preserved
loop-cells-preserved c = read_more c.loop-cells.invariant (sym c.row_at.ensures ∙ c.in-Cut.is) (c.take.ensures ∙ ap (take_line _) c.site_line_of-line.ensures) c.in_default.is

pub returns-in-NoRow-clause-told : goal.returns-in-NoRow-clause-told
unfolding lines_in read_lines
returns-in-NoRow-clause-told c = rw (read_turn c.loop-cells.invariant (sym c.row_at.ensures ∙ c.in-NoRow.is))

pub returns-in-NoRow-clause-draft : goal.returns-in-NoRow-clause-draft
unfolding lines_in read_lines
returns-in-NoRow-clause-draft c = rw (read_turn c.loop-cells.invariant (sym c.row_at.ensures ∙ c.in-NoRow.is))

pub returns-in-Broken-clause-told : goal.returns-in-Broken-clause-told
unfolding lines_in read_lines take_line
returns-in-Broken-clause-told c = rw (read_turn c.loop-cells.invariant (sym c.row_at.ensures ∙ c.in-Broken.is))

pub returns-in-Broken-clause-draft : goal.returns-in-Broken-clause-draft
unfolding lines_in read_lines take_line
returns-in-Broken-clause-draft c = rw (read_turn c.loop-cells.invariant (sym c.row_at.ensures ∙ c.in-Broken.is))
