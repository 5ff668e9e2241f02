-- `put_event` meets its contract: part after part. Assumes nothing.
use mathlib.Core.Path.{refl}
use native.Mathlib.Omega.{arith}
use Rattle.text.proofs.Writing.{begun, more, last}
use Rattle.text.specs.Text.{digits, decimal}
use Rattle.syslog.specs.Rows.{event_row}
use Rattle.stream_rows.proofs.put_event.Goals as goal

pub returns : goal.returns
unfolding event_row decimal digits
returns c = last (more (more (more (begun (omega arith) (omega arith)) refl c.put_bytes-name.ensures) refl c.put_name-comma.ensures) refl c.put-numbers.ensures) c.put_row.ensures
