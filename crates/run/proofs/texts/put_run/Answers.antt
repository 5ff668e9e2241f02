-- `put_run` meets its contract: the header, the answers, and the row of bad form if there is one. Assumes nothing.
use mathlib.Core.Path.{refl}
use native.Mathlib.Omega.{arith}
use Rattle.text.proofs.Writing.{begun, more, last, said}
use Rattle.run_text.specs.Printed.{replies_from}
use Rattle.run_text.proofs.Texts.{run_whole, run_broken, from_length}
use Rattle.run.proofs.texts.put_run.Goals as goal

pub returns-then-whole : goal.returns-then-whole
returns-then-whole c =
    let a = c.args in
    let rows = last (more (begun (omega arith) (omega arith)) refl c.put_bytes-rows.ensures) c.put_answers-end.ensures in
    said (run_whole (replies_from a.replies.answers.now a.replies.phases.now a.replies.reasons.now a.replies.held.now) c.if-whole.true) rows

pub returns : goal.returns
returns c =
    let a = c.args in
    let rows = more (more (begun (omega arith) (omega arith)) refl c.put_bytes-rows.ensures) refl c.put_answers-end.ensures in
    let told = a.replies in
    said (run_broken (replies_from a.replies.answers.now a.replies.phases.now a.replies.reasons.now a.replies.held.now) (from_length a.replies.answers.now a.replies.phases.now a.replies.reasons.now a.replies.held.now told.phases_told told.reasons_told told.held_told) c.if-whole.false) (last rows c.put_row.ensures)
