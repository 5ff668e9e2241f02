-- `put_held` meets its contract: reason 3 has its held door, the others nothing. Assumes nothing.
use mathlib.Core.Path.{refl}
use native.Mathlib.Omega.{arith}
use borrow.Author.Tests.{eq-eqb, ne_eqb}
use Rattle.text.proofs.Writing.{begun, more, last, ended}
use Rattle.syslog_write.proofs.put_held.Goals as goal

pub returns-then-reason-ne-HELD_REASON : goal.returns-then-reason-ne-HELD_REASON
returns-then-reason-ne-HELD_REASON c = ended (begun (omega arith) (omega arith)) (rw (ne_eqb _ _ c.if-reason-ne-HELD_REASON.true))

pub returns : goal.returns
returns c = rw (eq-eqb _ _ c.if-reason-ne-HELD_REASON.false) (last (more (begun (omega arith) (omega arith)) refl c.put_bytes-number.ensures) c.put_number.ensures)
