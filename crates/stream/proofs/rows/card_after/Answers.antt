-- `card_after` meets its contract: a card is taken, the door is freed, or the card stays. Assumes nothing.
use borrow.Author.Tests.{ne_eqb}
use Rattle.stream_text.specs.Rows.{card_after}
use Rattle.stream_text.proofs.Rows.{card_stays}
use Rattle.stream.proofs.rows.card_after.Goals as goal

pub returns-then-answer-ne-DONE : goal.returns-then-answer-ne-DONE
unfolding card_after
returns-then-answer-ne-DONE c = simp (ne_eqb _ _ c.if-answer-ne-DONE.true)

pub returns-in-Card : goal.returns-in-Card
unfolding card_after
returns-in-Card c = simp (c.if-answer-ne-DONE.false, c.in-Card.is)

pub returns-in-Ack : goal.returns-in-Ack
unfolding card_after
returns-in-Ack c = simp (c.if-answer-ne-DONE.false, c.in-Ack.is)

pub returns-in_default : goal.returns-in_default
returns-in_default c =
    card_stays _ _ _ _ c.in_default.not-Card
    c.in_default.not-Ack
