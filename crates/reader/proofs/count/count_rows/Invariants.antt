-- `reader::count::count_rows` meets its contract. The invariant of its loop: the answer from the row at `at` on is the answer from the start.
-- Assumes nothing.
use Prim.Native.Nat.{◌-◌}
use lib.ListN.{length}
use Rattle.grammar.proofs.Reading.{CountSoFar}
use Rattle.reader.proofs.count.count_rows.Given as goal

abbrev pub invariant-loop-next : goal.invariant-loop-next
invariant-loop-next l = CountSoFar l.s l.rows l.at

abbrev pub decreases-loop-next : goal.decreases-loop-next
decreases-loop-next l = length l.s - l.at
