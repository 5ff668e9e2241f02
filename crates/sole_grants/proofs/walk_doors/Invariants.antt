-- `walk_doors` meets its contract: each turn goes past a door, and marks the person of its grant. Assumes nothing.
use Rattle.sole_grants.proofs.Walks.{WalkSoFar}
use Rattle.sole_grants.proofs.walk_doors.Given as goal

abbrev pub invariant-loop-door : goal.invariant-loop-door
invariant-loop-door l = WalkSoFar l.so.phase.now l.so.holder.now l.from l.doors l.met l.told l.door
