-- `put_reason` meets its contract: a denial has its reason and what that adds, the others nothing. Assumes nothing.
use mathlib.Core.Path.{refl, sym, ap}
use native.Mathlib.Omega.{arith}
use Rattle.text.proofs.Writing.{begun, more, last, ended, said}
use Rattle.syslog.specs.Line.{reason_part}
use Rattle.syslog.specs.declared.Msgid.{Msgid}
use Rattle.syslog.proofs.Written.{no_reason}
use Rattle.syslog_write.proofs.put_reason.Goals as goal

pub returns-in-Deny : goal.returns-in-Deny
returns-in-Deny c = said (ap (λ (m : Msgid). reason_part m c.args.event.reason c.args.event.held) (sym c.in-Deny.is)) (last (more (more (begun (omega arith) (omega arith)) refl c.put_bytes-number.ensures) refl c.put_number-behind.ensures) c.put_held.ensures)

pub returns-in_default : goal.returns-in_default
returns-in_default c = ended (begun (omega arith) (omega arith)) (no_reason _ _ _ c.in_default.not-Deny)
