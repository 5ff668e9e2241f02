-- `mark_first` meets its contract: each turn goes past a door, and marks the location that the door names. Assumes nothing.
use Rattle.rules.proofs.Marks.{Marks, Firsts}
use Rattle.rules.proofs.Tables.mark_first.Given as goal

abbrev pub invariant-loop-door : goal.invariant-loop-door
invariant-loop-door l = Marks (Firsts l.self.origin.now l.self.destination.now) l.self.doors l.door l.first
