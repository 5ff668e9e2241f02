-- `put_events` meets its contract: each turn is one frame and its row. Assumes nothing.
use native.Mathlib.Omega.{arith}
use Rattle.syslog.proofs.Finding.{frame_onward}
use Rattle.syslog.proofs.Rowing.{rowing_start, rowing_more, rowing_end, rowing_break}
use Rattle.stream_rows.proofs.put_events.Goals as goal

pub loop-event-init : goal.loop-event-init
loop-event-init c = rowing_start (omega arith) (omega arith)

pub loop-event-smaller : goal.loop-event-smaller
loop-event-smaller c = let o = frame_onward (rw c.in-Ok-Some.field-0-is at c.in-Ok-Some.ensures) in omega (arith, o.0, o.1)

pub loop-event-preserved : goal.loop-event-preserved
loop-event-preserved c = rowing_more c.loop-event.invariant (rw c.in-Ok-Some.field-0-is at c.in-Ok-Some.ensures) c.put_event-next.ensures

pub shape_of-out-in-Ok-None : goal.shape_of-out-in-Ok-None
shape_of-out-in-Ok-None c = c.loop-event.invariant.long

pub returns-in-Ok-None : goal.returns-in-Ok-None
returns-in-Ok-None c = rowing_end c.loop-event.invariant (rw c.in-Ok-None.field-0-is at c.in-Ok-None.ensures)

pub returns-in-Err : goal.returns-in-Err
returns-in-Err c = rowing_break c.loop-event.invariant c.in-Err.ensures (rw c.number.ensures at c.put_refused.ensures)
