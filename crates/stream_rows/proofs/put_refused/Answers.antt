-- `put_refused` meets its contract: part after part. Assumes nothing.
use mathlib.Core.Path.{refl}
use native.Mathlib.Omega.{arith}
use Rattle.text.proofs.Writing.{begun, more, last}
use Rattle.syslog.specs.Rows.{refused_row}
use Rattle.stream_rows.proofs.put_refused.Goals as goal

pub returns : goal.returns
unfolding refused_row
returns c = last (more (more (begun (omega arith) (omega arith)) refl c.put_number-commas.ensures) refl c.put_bytes-numbers.ensures) c.put_row.ensures
