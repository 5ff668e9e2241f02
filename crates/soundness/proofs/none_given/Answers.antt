-- `none_given` meets its contract: it asks it of each entry from the first on. Assumes nothing.
use mathlib.Core.Path.{refl}
use borrow.Author.Rules.{rules}
use Rattle.soundness.specs.Rights.{not_given, none_given}
use lib.ListN.{get_or}
use mathlib.Core.Bool.{false, not}
use borrow.Author.Tests.{tests}
use Rattle.tables.proofs.Chains.{all_from}
use Rattle.soundness.proofs.none_given.Goals as goal

pub returns : goal.returns
unfolding none_given not_given
returns c = all_from (λ i. not (get_or c.args.right.now i false)) _ _ _ c.all.ensures.ran refl (λ x b q k. search (rules, tests))
