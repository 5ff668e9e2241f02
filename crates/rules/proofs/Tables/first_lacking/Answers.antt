-- `first_lacking` meets its contract: it finds the least location that breaks rule 9 for this person, and location 0 doesn't. Assumes nothing.
use mathlib.Core.Path.{refl}
use borrow.Author.Rules.{rules}
use Rattle.tables.specs.Tables.{and_also}
use Rattle.tables.specs.Tests.{lacks_right}
use Rattle.tables.proofs.Chains.{find_past_0}
use Rattle.rules.proofs.Tables.first_lacking.Goals as goal

pub returns : goal.returns
unfolding lacks_right and_also
returns c = find_past_0 _ _ _ _ c.find.ensures.ran refl (λ x b q k. search rules) refl
