-- `print` meets its contract: whatever text is put, it is measured, and written where it fits. Assumes nothing.
use native.Mathlib.Omega.{arith}
use Rattle.text.proofs.Printing.{measured}
use Rattle.text.proofs.print.print.Goals as goal

pub returns-then-out-length : goal.returns-then-out-length
returns-then-out-length g c = λ text puts. (measured (puts _ _ _ c.put-length.ensures)).short c.if-out-length.true

pub returns : goal.returns
returns g c = λ text puts. (measured (puts _ _ _ c.put-length.ensures)).long c.if-out-length.false (puts _ _ _ c.put.ensures) (omega arith)
