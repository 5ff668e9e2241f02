-- `put_events` meets its contract: each turn writes what one step writes, and keeps the card of its door. Assumes nothing.
use Rattle.stream_text.proofs.Rows.{Eventing}
use Rattle.stream.proofs.rows.put_events.Given as goal

abbrev pub invariant-loop-i : goal.invariant-loop-i
invariant-loop-i l =
    Eventing l.run.kinds.now l.run.doors.now l.run.persons.now l.run.answers.now l.run.phases.now l.run.reasons.now l.run.held.now
    l.initial.out l.out l.cards l.next l.i
