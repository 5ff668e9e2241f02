-- `is_shut_out` meets its contract: it asks of each location whether it is a first one. Assumes nothing.
use mathlib.Core.Path.{refl}
use borrow.Author.Rules.{rules}
use mathlib.Core.Path.{ap}
use mathlib.Core.Bool.{not}
use Rattle.rules.specs.Marks.{has_no_first}
use Rattle.tables.proofs.Chains.{any_is}
use Rattle.rules.proofs.Tables.is_shut_out.Goals as goal

pub returns : goal.returns
unfolding has_no_first
returns c = ap not (any_is _ _ _ _ c.any.ensures.ran refl (λ x b q k. search rules))
