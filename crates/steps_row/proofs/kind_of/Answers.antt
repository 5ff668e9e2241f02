-- `kind_of` meets its contract: the table of words is searched. Assumes nothing.
use borrow.Author.Rules.{rules}
use mathlib.Core.Path.{refl, ◌∙◌}
use Rattle.std.proofs.lemmas.Iterator.{YieldsList-from_slice}
use Rattle.std.proofs.lemmas.Iterator.Search.{position_from_yields_List}
use Rattle.cell_meaning.specs.Say.{is_word}
use Rattle.steps_row.proofs.Words.{kind_there, no_kind}
use Rattle.steps_row.proofs.kind_of.Goals as goal

pub returns-in-Some : goal.returns-in-Some
returns-in-Some c =
    c.from.ensures ∙ kind_there c.args.s.now c.args.cell c.iter.ensures.rest refl (position_from_yields_List (λ w. is_word c.args.s.now c.args.cell w.now) _ _ _ c.position.ensures.ran (YieldsList-from_slice _ c.iter.ensures.rest) (λ x b q k. search rules)) c.in-Some.is

pub returns-in-None : goal.returns-in-None
returns-in-None c =
    no_kind c.args.s.now c.args.cell c.iter.ensures.rest refl (position_from_yields_List (λ w. is_word c.args.s.now c.args.cell w.now) _ _ _ c.position.ensures.ran (YieldsList-from_slice _ c.iter.ensures.rest) (λ x b q k. search rules)) c.in-None.is
