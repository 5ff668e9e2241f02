-- What was read lies within the list, and each turn reads at least one byte more.
use Rattle.std.proofs.Common.{◌-◌, ◌≤◌, length}
use Rattle.sheet_files.proofs.read_full.Given as goal

abbrev pub invariant-loop-done : goal.invariant-loop-done
invariant-loop-done g l = l.done ≤ length l.list

abbrev pub decreases-loop-done : goal.decreases-loop-done
decreases-loop-done g l = length l.list - l.done
