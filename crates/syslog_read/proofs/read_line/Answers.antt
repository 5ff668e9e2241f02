-- `read_line` meets its contract: the guess decides. Assumes nothing.
use mathlib.Core.Path.{sym, ap, ◌∙◌}
use mathlib.Core.Bool.{true≢false}
use native.Mathlib.Omega.{arith}
use Rattle.std.proofs.Common.{rules}
use Rattle.syslog.specs.Line.{line_of, fits_line}
use Rattle.syslog.proofs.Fit.{fits_tells}
use Rattle.syslog.proofs.Lengths.{line_short}
use Rattle.syslog.proofs.Finding.{line_found, line_unfit, line_other}
use Rattle.syslog_read.proofs.read_line.Goals as goal
use Rattle.syslog_read.proofs.read_line.Goals.{else-fits_line-via-then-fits_line+else-is_put, else-fits_line-via-else-fits_line}

pub returns-then-is_put : goal.returns-then-is_put
returns-then-is_put c =
    let fits = sym c.if-fits_line.ensures in
    let few = line_short c.guess-event.result ((fits_tells c.guess-event.result).yes fits) in
    line_found fits ((c.is_put.ensures (line_of c.guess-event.result) (omega arith) (λ out next left ran. search rules)).yes c.if-is_put.true)

pub returns : goal.returns
returns c =
    elim c.else-fits_line.branch [
      | else-fits_line-via-then-fits_line+else-is_put w ↦
          let few = line_short c.guess-event.result ((fits_tells c.guess-event.result).yes (sym w.if-fits_line.ensures)) in
          line_other (λ is. true≢false (sym ((w.is_put.ensures (line_of c.guess-event.result) (omega arith) (λ out next left ran. search rules)).back (is ∙ ap line_of (sym c.guess-event.ensures))) ∙ w.if-is_put.false))
      | else-fits_line-via-else-fits_line w ↦ line_unfit (ap fits_line (sym c.guess-event.ensures) ∙ sym w.if-fits_line.ensures)
    ]
