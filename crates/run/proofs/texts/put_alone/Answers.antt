-- `put_alone` meets its contract: the header, then one row. Assumes nothing.
use mathlib.Core.Path.{refl}
use native.Mathlib.Omega.{arith}
use Rattle.text.proofs.Writing.{begun, more, last}
use Rattle.run_text.specs.Printed.{alone_text}
use Rattle.run.proofs.texts.put_alone.Goals as goal

pub returns : goal.returns
unfolding alone_text
returns c = last (more (begun (omega arith) (omega arith)) refl c.put_bytes-row.ensures) c.put_row.ensures
