-- `behind_mark` meets its contract: the first mark is found. Assumes nothing.
use mathlib.Core.Path.{◌∙◌}
use borrow.Author.Tests.{tests}
use Rattle.std.proofs.Common.{rules, ◌+◌}
use Rattle.std.proofs.lemmas.Iterator.{YieldsList-from_slice}
use Rattle.std.proofs.lemmas.Iterator.Search.{position_from_yields_List}
use Rattle.syslog.proofs.Loops.{is_mark, mark_found, mark_none, tail_is}
use Rattle.syslog_read.proofs.behind_mark.Goals as goal

pub returns-in-Some : goal.returns-in-Some
returns-in-Some c =
    tail_is c.args.text.now (c.in-Some.mark + 1)
    ∙ mark_found c.args.text.now (position_from_yields_List is_mark _ _ c.position.result c.position.ensures.ran (YieldsList-from_slice c.args.text.now c.iter.ensures.rest) (λ x b q k. search (rules, tests)))
    c.in-Some.is

pub returns-in-None : goal.returns-in-None
returns-in-None c =
    mark_none c.args.text.now (position_from_yields_List is_mark _ _ c.position.result c.position.ensures.ran (YieldsList-from_slice c.args.text.now c.iter.ensures.rest) (λ x b q k. search (rules, tests)))
    c.in-None.is
