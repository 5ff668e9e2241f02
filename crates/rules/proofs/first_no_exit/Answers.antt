-- `first_no_exit` meets its contract: it finds the least location that has no exit, and location 0 needs none. Assumes nothing.
use mathlib.Core.Path.{refl}
use borrow.Author.Rules.{rules}
use Rattle.tables.specs.Tables.{and_also}
use Rattle.tables.specs.Tests.{lacks_exit, first_no_exit}
use Rattle.tables.proofs.Chains.{find_past_0}
use Rattle.rules.proofs.first_no_exit.Goals as goal

pub returns : goal.returns
unfolding first_no_exit lacks_exit and_also
returns c = find_past_0 _ _ _ _ c.find.ensures.ran refl (λ x b q k. search rules) refl
