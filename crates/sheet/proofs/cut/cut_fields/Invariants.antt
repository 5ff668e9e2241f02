-- `sheet::cut::cut_fields` meets its contract. The invariant of its loop: the answer from the field at i on is the answer from the start.
-- Assumes nothing.
use Prim.Native.Nat.{◌+◌, ◌-◌}
use lib.ListN.{length}
use Rattle.grammar.proofs.Steps.{RowSoFar}
use Rattle.sheet.proofs.cut.cut_fields.Given as goal

abbrev pub invariant-loop-cell : goal.invariant-loop-cell
invariant-loop-cell l = RowSoFar l.s l.at l.cells l.i

abbrev pub decreases-loop-cell : goal.decreases-loop-cell
decreases-loop-cell l = length l.s + 1 - l.i
