-- `sole_grants` meets its contract: each walk tells of the next people, till no grant is of a person beyond. Assumes nothing.
use Prim.Native.Nat.{◌-◌}
use Rattle.sole_grants.specs.Marks.{most_holder}
use Rattle.sole_grants.proofs.Walks.{Cleared}
use Rattle.sole_grants.proofs.sole_grants.Given as goal

abbrev pub invariant-loop-from : goal.invariant-loop-from
invariant-loop-from l = Cleared l.so.phase.now l.so.holder.now l.doors l.from

abbrev pub decreases-loop-from : goal.decreases-loop-from
decreases-loop-from l = most_holder - l.from
