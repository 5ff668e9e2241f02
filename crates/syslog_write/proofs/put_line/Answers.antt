-- `put_line` meets its contract: part after part. Assumes nothing.
use mathlib.Core.Path.{refl}
use native.Mathlib.Omega.{arith}
use Rattle.text.proofs.Writing.{begun, more, last}
use Rattle.syslog.proofs.Lengths.{head_and_tail}
use Rattle.syslog_write.proofs.put_line.Goals as goal

pub returns : goal.returns
returns c = last (more (more (more (more (begun (omega arith) (omega arith)) (head_and_tail c.args.event) c.put_head-door.ensures) refl c.put_number-behind_door.ensures) refl c.put_bytes-person.ensures) refl c.put_number-behind_person.ensures) c.put_reason.ensures
