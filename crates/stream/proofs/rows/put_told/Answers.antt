-- `put_told` meets its contract: a step that was done writes the frame of its event, if it has one. Assumes nothing.
use mathlib.Core.Path.{ap, ◌∙◌}
use native.Mathlib.Omega.{arith}
use Rattle.text.proofs.Writing.{said}
use Rattle.syslog.specs.Line.{framed_of}
use Rattle.stream_text.proofs.Rows.{nothing_written, told_refused, told_nothing, told_decided, told_passed, told_lapsed}
use Rattle.stream.proofs.rows.put_told.Goals as goal

pub returns-then-step-ne-DONE : goal.returns-then-step-ne-DONE
returns-then-step-ne-DONE c =
    let a = c.args.step in
    nothing_written _ (told_refused a.kind a.answer a.phase a.reason a.held a.door c.args.person c.if-step-ne-DONE.true) (omega arith) (omega arith)

pub returns-in-Decide : goal.returns-in-Decide
returns-in-Decide c =
    let a = c.args.step in
    said (ap framed_of c.decided.ensures ∙ told_decided a.kind a.answer a.phase a.reason a.held a.door c.args.person c.in-Decide.is c.if-step-ne-DONE.false) c.put_frame.ensures

pub returns-in-Passed : goal.returns-in-Passed
returns-in-Passed c =
    let a = c.args.step in
    said (ap framed_of c.event_of.ensures ∙ told_passed a.kind a.answer a.phase a.reason a.held a.door c.args.person c.in-Passed.is c.if-step-ne-DONE.false) c.put_frame-in-Passed.ensures

pub returns-in-Lapsed : goal.returns-in-Lapsed
returns-in-Lapsed c =
    let a = c.args.step in
    said (ap framed_of c.event_of-in-Lapsed.ensures ∙ told_lapsed a.kind a.answer a.phase a.reason a.held a.door c.args.person c.in-Lapsed.is c.if-step-ne-DONE.false) c.put_frame-in-Lapsed.ensures

pub returns-in_default : goal.returns-in_default
returns-in_default c =
    let a = c.args.step in
    nothing_written _
    (told_nothing a.kind a.answer a.phase a.reason a.held a.door c.args.person c.in_default.not-Decide
    c.in_default.not-Passed c.in_default.not-Lapsed c.if-step-ne-DONE.false)
    (omega arith) (omega arith)
