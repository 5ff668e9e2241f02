-- `mark_led` meets its contract: each turn goes past a door, and marks the location that the door names. Assumes nothing.
use Rattle.rules.proofs.Marks.{Marks, Led}
use Rattle.rules.proofs.Tables.mark_led.Given as goal

abbrev pub invariant-loop-door : goal.invariant-loop-door
invariant-loop-door l = Marks (Led l.self.origin.now l.self.destination.now l.self.exit.now) l.self.doors l.door l.led
