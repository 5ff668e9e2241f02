-- `put_events` meets its contract: each turn writes what one step writes, and keeps the card of its door. Assumes nothing.
use mathlib.Core.Path.{refl}
use native.Mathlib.Omega.{arith}
use Rattle.stream_text.proofs.Rows.{events_start, events_more, events_end}
use Rattle.stream.proofs.rows.put_events.Goals as goal

pub loop-i-init : goal.loop-i-init
loop-i-init c = events_start c.no_cards-cards.ensures (omega arith)

pub bounds-run-i : goal.bounds-run-i
bounds-run-i c = let heard = c.args.run.heard in omega arith

pub loop-i-preserved : goal.loop-i-preserved
loop-i-preserved c =
    let wrote = c.put_event-next.ensures in
    events_more c.loop-i.invariant c.args.run.heard (omega arith) c.from.ensures c.entry_at-in-loop-i-2.ensures c.entry_at-in-loop-i-3.ensures
    c.entry_at-in-loop-i-4.ensures refl c.entry_at.ensures c.entry_at-in-loop-i.ensures refl wrote.wrote refl wrote.cards

pub returns : goal.returns
returns c = events_end c.loop-i.invariant (omega arith)
