-- `zero_from` meets its contract: it asks it of each entry from the count on. Assumes nothing.
use mathlib.Core.Path.{refl}
use borrow.Author.Rules.{rules}
use Rattle.soundness.specs.SoundTest.{zero_at, zero_from}
use lib.Dec.{eqb}
use lib.ListN.{get_or}
use borrow.Author.Tests.{tests}
use Rattle.tables.proofs.Chains.{all_from}
use Rattle.soundness.proofs.zero_from.Goals as goal

pub returns : goal.returns
unfolding zero_from zero_at
returns c = all_from (λ i. eqb (get_or c.args.table.now i 0) 0) _ _ _ c.all.ensures.ran refl (λ x b q k. search (rules, tests))
