-- `msgid_in` meets its contract: the first letter is found. Assumes nothing.
use mathlib.Core.Path.{◌∙◌}
use borrow.Author.Tests.{tests}
use Rattle.std.proofs.Common.{rules}
use Rattle.std.proofs.lemmas.Iterator.{YieldsList-from_slice}
use Rattle.std.proofs.lemmas.Iterator.Search.{find_from_yields_List}
use Rattle.syslog.proofs.Loops.{is_letter, letter_found, letter_none}
use Rattle.syslog_read.proofs.msgid_in.Goals as goal

pub returns-in-Some : goal.returns-in-Some
returns-in-Some c =
    c.msgid_by.ensures
    ∙ letter_found c.args.text.now (find_from_yields_List is_letter _ _ c.find.result c.find.ensures.ran (YieldsList-from_slice c.args.text.now c.iter.ensures.rest) (λ x b q k. search (rules, tests)))
    c.in-Some.is

pub returns-in-None : goal.returns-in-None
returns-in-None c =
    letter_none c.args.text.now (find_from_yields_List is_letter _ _ c.find.result c.find.ensures.ran (YieldsList-from_slice c.args.text.now c.iter.ensures.rest) (λ x b q k. search (rules, tests)))
    c.in-None.is
