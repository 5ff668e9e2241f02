-- `put_shown` meets its contract: a row of bad form asks for no step, and all others for one. Assumes nothing.
use Rattle.steps_sheet.proofs.Rows.{others_are_steps}
use Rattle.attend.specs.Attend.{shown_row}
use Rattle.attend.proofs.put_shown.Goals as goal

pub returns-in-Unknown : goal.returns-in-Unknown
unfolding shown_row
returns-in-Unknown c = rw c.in-Unknown.is c.put_row.ensures

pub returns : goal.returns
unfolding shown_row
returns c =
    let step = others_are_steps c.args.asked.kind c.in_default.not-Unknown in
    rw (step, ← c.number.ensures) c.put_row-2.ensures
