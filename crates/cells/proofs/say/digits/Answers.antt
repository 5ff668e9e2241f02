-- `digits` meets its contract. The invariant of its loop: the answer from digit i on is the answer from the start, and the value has at most i digits.
-- Assumes nothing.
use mathlib.Core.Path.{sym}
use Rattle.cell_meaning.proofs.Saying.{digits_more, digits_end}
use Rattle.cells.proofs.Digits.{digits_stop}
use Rattle.cells.proofs.say.digits.Goals as goal

pub returns-then-not-is_ascii_digit : goal.returns-then-not-is_ascii_digit
returns-then-not-is_ascii_digit c = sym (digits_stop c.loop-b.invariant c.loop-b-test.true c.if-not-is_ascii_digit.ensures.cases)

pub loop-b-preserved : goal.loop-b-preserved
loop-b-preserved c = let k = c.if-not-is_ascii_digit.ensures.cases in digits_more c.loop-b.invariant c.loop-b-test.true k.0 k.1

pub returns : goal.returns
returns c = sym (digits_end c.loop-b.invariant c.loop-b-test.false)
