-- `put_stream` meets its contract: the header, then the rows. Assumes nothing.
use mathlib.Core.Path.{refl}
use native.Mathlib.Omega.{arith}
use Rattle.text.proofs.Writing.{begun, more, last}
use Rattle.syslog.specs.Rows.{stream_rows}
use Rattle.stream_rows.proofs.put_stream.Goals as goal

pub returns : goal.returns
unfolding stream_rows
returns c = record { puts = λ es whole s. last (more (begun (omega arith) (omega arith)) refl c.put_bytes-rows.ensures) (c.put_events.ensures.puts es whole s) }
