-- `put_long` meets its contract: the header, then one row. Assumes nothing.
use mathlib.Core.Path.{refl}
use native.Mathlib.Omega.{arith}
use Rattle.text.proofs.Writing.{begun, more, last}
use Rattle.syslog.specs.Rows.{long_rows}
use Rattle.stream_rows.proofs.put_long.Goals as goal

pub returns : goal.returns
unfolding long_rows
returns c = last (more (begun (omega arith) (omega arith)) refl c.put_bytes-row.ensures) c.put_refused.ensures
