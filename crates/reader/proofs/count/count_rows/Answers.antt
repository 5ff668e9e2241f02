-- `reader::count::count_rows` meets its contract. The invariant of its loop: the answer from the row at `at` on is the answer from the start.
-- Assumes nothing.
use mathlib.Core.Path.{sym, ◌∙◌}
use native.Mathlib.Omega.{arith}
use Rattle.grammar.specs.Rows.{count_from}
use Rattle.grammar.proofs.Reading.{count_start, count_turn, count_more, cut_there}
use Rattle.reader.proofs.count.count_rows.Goals as goal

pub loop-next-init : goal.loop-next-init
loop-next-init c = count_start _

pub loop-next-smaller : goal.loop-next-smaller
loop-next-smaller c = let w = cut_there _ _ (sym c.row_at.ensures ∙ c.in-Cut.is) in omega arith

pub loop-next-preserved : goal.loop-next-preserved
loop-next-preserved c = count_more c.loop-next.invariant (sym c.row_at.ensures ∙ c.in-Cut.is)

pub returns-in-NoRow : goal.returns-in-NoRow
unfolding count_from
returns-in-NoRow c = sym (count_turn c.loop-next.invariant (sym c.row_at.ensures ∙ c.in-NoRow.is))

pub returns-in-Broken : goal.returns-in-Broken
unfolding count_from
returns-in-Broken c = sym (count_turn c.loop-next.invariant (sym c.row_at.ensures ∙ c.in-Broken.is))
