-- `print_run` meets its contract: the text is written at once where it must fit. Assumes nothing.
use native.Mathlib.Omega.{arith}
use Rattle.text.proofs.Printing.{at_once}
use Rattle.run.proofs.texts.print_run.Goals as goal

pub returns-then-most_text-out : goal.returns-then-most_text-out
returns-then-most_text-out c =
    let room = c.if-most_text-out.true in
    let most = c.most_text.ensures in
    let short = c.requires.short in
    at_once (omega (arith, room, most, short)) (omega arith) c.put_run.ensures
