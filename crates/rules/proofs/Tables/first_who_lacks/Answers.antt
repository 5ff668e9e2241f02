-- `first_who_lacks` meets its contract: it finds the least person who breaks rule 9. Assumes nothing.
use mathlib.Core.Path.{refl}
use borrow.Author.Rules.{rules}
use Rattle.tables.proofs.Chains.{find_is}
use Rattle.rules.proofs.Tables.first_who_lacks.Goals as goal

pub returns : goal.returns
returns c = find_is _ _ _ _ c.find.ensures.ran refl (λ x b q k. search rules)
