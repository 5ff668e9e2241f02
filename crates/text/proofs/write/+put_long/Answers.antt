-- `put_long` meets its contract: one digit, or two, or those of the hundredth and then two. The measure is the number. Assumes nothing.
use native.Mathlib.Omega.{arith}
use Rattle.text.proofs.Decimal.{short_written, pair_written, long_written}
use Rattle.text.proofs.write.+put_long.Goals as goal

pub returns-then-n-ge100 : goal.returns-then-n-ge100
returns-then-n-ge100 t c = long_written (omega arith) (omega arith) (omega (arith, c.if-n-ge100.true)) c.put_long-next.ensures c.put_pair.ensures

pub returns-then-n-ge10 : goal.returns-then-n-ge10
returns-then-n-ge10 t c = pair_written (omega (arith, c.if-n-ge10.true)) (omega (arith, c.if-n-ge100.false)) c.put_pair-then-n-ge10.ensures

pub returns : goal.returns
returns t c = short_written (omega (arith, c.if-n-ge10.false)) c.put.ensures
