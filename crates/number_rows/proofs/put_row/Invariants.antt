-- `put_row` meets its contract: the first number, in each turn a comma and a number, and behind the loop CRLF. Assumes nothing.
use Rattle.number_rows.proofs.Loop.{InRow}
use Rattle.number_rows.proofs.put_row.Given as goal

abbrev pub invariant-loop-n : goal.invariant-loop-n
invariant-loop-n l = InRow l.first l.more l.fn.out l.at l.out l.next l.n-index
