-- `read_frame` meets its contract: the count says how much is compared with the guess. Assumes nothing.
use mathlib.Core.Path.{sym, ap, ◌∙◌}
use mathlib.Core.Bool.{true≢false}
use mathlib.Core.Logic.{⊎_elim}
use native.Mathlib.Omega.{arith}
use Rattle.std.proofs.Common.{rules}
use Rattle.std.proofs.lemmas.Result.{err_from_is_err_and}
use Rattle.syslog.specs.Line.{framed_of, fits_line}
use Rattle.syslog.proofs.Fit.{fits_tells}
use Rattle.syslog.proofs.Lengths.{frame_short}
use Rattle.syslog.proofs.Finding.{cut_read, unfit_read, other_read, found_read}
use Rattle.syslog_read.proofs.read_frame.Goals as goal
use Rattle.syslog_read.proofs.read_frame.Goals.{else-fits_line-via-then-fits_line+else-is_put, else-fits_line-via-else-fits_line}

pub returns-in_err-text : goal.returns-in_err-text
returns-in_err-text c =
    let rest = rw c.in_ok-rest.ensures.ok_part at c.get.ensures.lookup.0 in
    let short = rw c.in_err-text.ensures.ok_part at c.get-2.ensures.lookup.0 in
    let p = err_from_is_err_and c.from_residual-in_err-text.result c.from_residual-in_err-text.ensures.1 in
    rw p.1 (cut_read c.args.stream.now c.in_ok-rest.rest.now c.args.at c.number_from-size.result rest.2 rest.3 c.if-is_empty.ensures c.number_from-size.ensures.number (⊎_elim (λ none. absurd (omega (arith, none))) (λ few. few) short))

pub returns-then-is_put : goal.returns-then-is_put
returns-then-is_put c =
    let rest = rw c.in_ok-rest.ensures.ok_part at c.get.ensures.lookup.0 in
    let text = rw c.in_ok-text.ensures.ok_part at c.get-2.ensures.lookup.0 in
    let fits = sym c.if-fits_line.ensures in
    let few = frame_short c.guess-event.result ((fits_tells c.guess-event.result).yes fits) in
    found_read c.args.stream.now c.in_ok-rest.rest.now c.args.at c.number_from-size.result rest.2 rest.3 c.if-is_empty.ensures c.number_from-size.ensures.number
    c.in_ok-text.text.now text.1 text.2 fits ((c.is_put.ensures (framed_of c.guess-event.result) (omega arith) (λ out next left ran. search rules)).yes c.if-is_put.true)

pub returns : goal.returns
returns c =
    let rest = rw c.in_ok-rest.ensures.ok_part at c.get.ensures.lookup.0 in
    let text = rw c.in_ok-text.ensures.ok_part at c.get-2.ensures.lookup.0 in
    elim c.else-fits_line.branch [
      | else-fits_line-via-then-fits_line+else-is_put w ↦
          let few = frame_short c.guess-event.result ((fits_tells c.guess-event.result).yes (sym w.if-fits_line.ensures)) in
          other_read c.args.stream.now c.in_ok-rest.rest.now c.args.at c.number_from-size.result rest.2 rest.3 c.if-is_empty.ensures c.number_from-size.ensures.number
          c.in_ok-text.text.now text.1 text.2
          (λ is. true≢false (sym ((w.is_put.ensures (framed_of c.guess-event.result) (omega arith) (λ out next left ran. search rules)).back (is ∙ ap framed_of (sym c.guess-event.ensures))) ∙ w.if-is_put.false))
      | else-fits_line-via-else-fits_line w ↦
          unfit_read c.args.stream.now c.in_ok-rest.rest.now c.args.at c.number_from-size.result rest.2 rest.3 c.if-is_empty.ensures c.number_from-size.ensures.number
          c.in_ok-text.text.now text.1 text.2 (ap fits_line (sym c.guess-event.ensures) ∙ sym w.if-fits_line.ensures)
    ]
