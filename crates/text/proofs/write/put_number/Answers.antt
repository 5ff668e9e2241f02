-- `put_number` meets its contract: one digit, or as `put_long` puts it. Assumes nothing.
use native.Mathlib.Omega.{arith}
use Rattle.text.proofs.Decimal.{short_written}
use Rattle.text.proofs.write.put_number.Goals as goal

pub returns-then-n-lt10 : goal.returns-then-n-lt10
returns-then-n-lt10 c = short_written (omega (arith, c.if-n-lt10.true)) c.put.ensures
