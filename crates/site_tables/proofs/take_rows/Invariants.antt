-- `site_tables::take_rows` meets its contract. The invariant of its loop: the answer from the row at `at` on is the answer from the start.
-- Assumes nothing.
use Prim.Native.Nat.{◌-◌}
use lib.ListN.{length}
use Rattle.site_lines.proofs.Loop.{ReadSoFar}
use Rattle.site_tables.proofs.take_rows.Given as goal

abbrev pub invariant-loop-cells : goal.invariant-loop-cells
invariant-loop-cells l = ReadSoFar l.s l.from l.initial.draft l.draft l.at l.row

abbrev pub decreases-loop-cells : goal.decreases-loop-cells
decreases-loop-cells l = length l.s - l.at
