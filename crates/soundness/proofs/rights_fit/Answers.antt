-- `rights_fit` meets its contract: it asks it of each person's row. Assumes nothing.
use mathlib.Core.Path.{refl, ◌∙◌}
use borrow.Author.Rules.{rules}
use Rattle.tables.proofs.Chains.{all_is}
use Rattle.soundness.proofs.Rights.{rows_are}
use Rattle.soundness.proofs.rights_fit.Goals as goal

pub returns : goal.returns
returns c = all_is _ _ _ _ c.all.ensures.ran (rw c.div_ceil.ensures refl) (λ x b q k. search rules) ∙ rows_are _ _ _
