-- `places_fit` meets its contract: it asks it of each place. Assumes nothing.
use mathlib.Core.Path.{refl}
use borrow.Author.Rules.{rules}
use Rattle.soundness.specs.SoundTest.{places_fit}
use Rattle.tables.proofs.Chains.{all_is}
use Rattle.soundness.proofs.places_fit.Goals as goal

pub returns : goal.returns
unfolding places_fit
returns c = all_is _ _ _ _ c.all.ensures.ran refl (λ x b q k. search rules)
