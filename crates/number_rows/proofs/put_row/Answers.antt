-- `put_row` meets its contract: the first number, in each turn a comma and a number, and behind the loop CRLF. Assumes nothing.
use native.Mathlib.Omega.{arith}
use borrow.Author.Rules.{rules}
use Rattle.number_rows.proofs.Loop.{row_begun, numbers_more, row_ended}
use Rattle.number_rows.proofs.put_row.Goals as goal

pub loop-n-init : goal.loop-n-init
loop-n-init c = row_begun (omega arith) (omega arith) c.put_number-next.ensures

pub loop-n-preserved : goal.loop-n-preserved
loop-n-preserved c = search (rules, numbers_more)

pub returns : goal.returns
returns c = search (rules, row_ended)
