-- `digits` meets its contract. The invariant of its loop: the answer from digit i on is the answer from the start, and the value has at most i digits.
-- Assumes nothing.
use Rattle.cell_meaning.proofs.Saying.{DigitsSoFar}
use Rattle.cells.proofs.say.digits.Given as goal

abbrev pub invariant-loop-b : goal.invariant-loop-b
invariant-loop-b l = DigitsSoFar l.c l.value l.b-index
