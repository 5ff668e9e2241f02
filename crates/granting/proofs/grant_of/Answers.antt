-- `grant_of` meets its contract: the doors are asked one after the other. Assumes nothing.
use mathlib.Core.Path.{refl}
use borrow.Author.Rules.{rules}
use borrow.Author.Tests.{tests}
use Rattle.tables.proofs.Chains.{find_is}
use Rattle.granting.specs.Grants.{grants_to, grant_of}
use Rattle.granting.proofs.grant_of.Goals as goal

pub returns : goal.returns
unfolding grant_of
returns c =
    let a = c.args in
    find_is (grants_to a.so.phase.now a.so.holder.now a.person) _ _ _ c.find.ensures.ran refl (λ x b q k. search (rules, tests))
