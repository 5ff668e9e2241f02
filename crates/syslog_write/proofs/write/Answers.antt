-- `write` meets its contract: an event that doesn't fit is refused first. Assumes nothing.
use mathlib.Core.Path.{sym, ◌∙◌}
use Rattle.std.proofs.lemmas.Result.{err_from_is_err_and}
use Rattle.syslog.proofs.Written.{writes_unfit, writes_printed, writes_short}
use Rattle.syslog_write.proofs.write.Goals as goal

pub returns-then-not-fits_line : goal.returns-then-not-fits_line
returns-then-not-fits_line g c = λ text puts. writes_unfit (sym c.fits_line.ensures ∙ c.if-not-fits_line.true)

pub returns-in_err-print : goal.returns-in_err-print
returns-in_err-print g c = λ text puts.
    let p = err_from_is_err_and c.from_residual.result c.from_residual.ensures.1 in
    writes_short {after = c.print.new.out} p.1 p.2 (sym c.fits_line.ensures ∙ c.if-not-fits_line.false) (c.in_err-print.ensures text puts)

pub returns : goal.returns
returns g c = λ text puts. writes_printed (sym c.fits_line.ensures ∙ c.if-not-fits_line.false) (c.in_ok-print.ensures text puts)
