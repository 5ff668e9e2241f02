-- `put_events` meets its contract: each turn is one frame and its row. Assumes nothing.
use Prim.Native.Nat.{◌-◌}
use lib.ListN.{length}
use Rattle.syslog.proofs.Rowing.{Rowing}
use Rattle.stream_rows.proofs.put_events.Given as goal

abbrev pub invariant-loop-event : goal.invariant-loop-event
invariant-loop-event l = Rowing l.stream l.initial.out l.at l.out l.next l.place

abbrev pub decreases-loop-event : goal.decreases-loop-event
decreases-loop-event l = length l.stream - l.place
