-- `decided` meets its contract: the event is a grant or a denial, by the door's phase. Assumes nothing.
use mathlib.Core.Path.{◌∙◌}
use Rattle.stream_text.proofs.Rows.{decided_granted, decided_denied}
use Rattle.stream.proofs.rows.decided.Goals as goal

pub returns-then-step-eq-GRANTED : goal.returns-then-step-eq-GRANTED
returns-then-step-eq-GRANTED c =
    let s = c.args.step in
    c.event_of.ensures ∙ decided_granted s.phase s.reason s.held s.door c.args.person c.if-step-eq-GRANTED.true

pub returns : goal.returns
returns c = let s = c.args.step in decided_denied s.phase s.reason s.held s.door c.args.person c.if-step-eq-GRANTED.false
