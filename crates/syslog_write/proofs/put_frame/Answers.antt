-- `put_frame` meets its contract: the line is measured, and its length, a blank and the line are written. Assumes nothing.
use mathlib.Core.Path.{◌≡◌, refl}
use native.Mathlib.Omega.{arith}
use lib.ListN.{length}
use Rattle.text.proofs.Writing.{begun, more, last}
use Rattle.text.proofs.Printing.{unaltered, size_is}
use Rattle.syslog.specs.Line.{line_of, framed_of}
use Rattle.syslog.proofs.Lengths.{line_small}
use Rattle.syslog_write.proofs.put_frame.Goals as goal

pub returns : goal.returns
unfolding framed_of
returns c =
    let e = c.args.event in
    let line = c.put_line-count.ensures in
    let few = line_small e (omega (arith, c.well_formed)) (omega (arith, c.well_formed)) (omega (arith, c.well_formed)) (omega (arith, c.well_formed)) in
    let count : c.put_line-count.result ≡ length (line_of e) = size_is line (omega arith) in
    let first = rw (unaltered line, count) at c.put_number-blank.ensures in
    last (more (more (begun (omega arith) (omega arith)) refl first) refl c.put-line.ensures) c.put_line.ensures
