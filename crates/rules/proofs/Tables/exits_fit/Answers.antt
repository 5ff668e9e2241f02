-- `exits_fit` meets its contract: it asks it of each location. Assumes nothing.
use mathlib.Core.Path.{refl}
use borrow.Author.Rules.{rules}
use Rattle.tables.proofs.Chains.{all_is}
use Rattle.rules.proofs.Tables.exits_fit.Goals as goal

pub returns : goal.returns
returns c = all_is _ _ _ _ c.all.ensures.ran refl (λ x b q k. search rules)
