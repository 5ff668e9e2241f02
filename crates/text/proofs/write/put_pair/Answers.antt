-- `put_pair` meets its contract: one digit behind the other. Assumes nothing.
use mathlib.Core.Path.{refl}
use native.Mathlib.Omega.{arith}
use Rattle.text.specs.Text.{pair_of}
use Rattle.text.proofs.Writing.{begun, more, last}
use Rattle.text.proofs.write.put_pair.Goals as goal

pub returns : goal.returns
unfolding pair_of
returns c = last (more (begun (omega arith) (omega arith)) refl c.put-next.ensures) c.put.ensures
