-- `first_shut_out` meets its contract: no door lets a person in exactly when no marked location is a first one of theirs. Assumes nothing.
use mathlib.Core.Path.{◌∙◌, refl}
use borrow.Author.Rules.{rules}
use Rattle.tables.specs.Below.{least_below}
use Rattle.tables.specs.Tests.{first_shut_out}
use Rattle.tables.proofs.Chains.{find_is}
use Rattle.rules.specs.Marks.{has_no_first}
use Rattle.rules.proofs.Marks.{no_first_same}
use Rattle.rules.proofs.Tables.first_shut_out.Goals as goal

pub returns : goal.returns
unfolding first_shut_out
returns c =
    let a = c.args.self in
    let first = c.mark_first-first.result in
    let looked =
    find_is (has_no_first first a.right.now) _ _ _ c.find.ensures.ran refl (λ x b q k. search rules)
    ∙ (λ i. least_below (λ p. no_first_same _ _ a.doors first a.right.now c.mark_first-first.ensures p i) a.people)
    in
    record { told = looked; whatever_else = λ locations exit. looked }
