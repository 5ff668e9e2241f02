-- `first_stray` meets its contract: it finds the least location that breaks rule 7. Assumes nothing.
use mathlib.Core.Path.{refl}
use borrow.Author.Rules.{rules}
use Rattle.tables.specs.Tests.{first_stray}
use Rattle.tables.proofs.Chains.{find_is}
use Rattle.rules.proofs.Tables.first_stray.Goals as goal

pub returns : goal.returns
unfolding first_stray
returns c = find_is _ _ _ _ c.find.ensures.ran refl (λ x b q k. search rules)
