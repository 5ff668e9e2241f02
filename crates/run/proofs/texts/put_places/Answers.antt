-- `put_places` meets its contract: the header, and each turn one row more. Assumes nothing.
use mathlib.Core.Path.{refl}
use native.Mathlib.Omega.{arith}
use Rattle.text.proofs.Writing.{begun, more, last}
use Rattle.run_text.specs.Printed.{places_text}
use Rattle.run_text.proofs.Texts.{place_start, place_more, place_end}
use Rattle.run.proofs.texts.put_places.Goals as goal

pub loop-i-init : goal.loop-i-init
loop-i-init c = place_start (omega arith) (omega arith)

pub loop-i-preserved : goal.loop-i-preserved
loop-i-preserved c = place_more c.loop-i.invariant (omega arith) refl c.put_row-next.ensures

pub returns : goal.returns
unfolding places_text
returns c = last (more (begun (omega arith) (omega arith)) refl c.put_bytes-next.ensures) (place_end c.loop-i.invariant (omega arith))
