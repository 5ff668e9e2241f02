-- `print_steps` meets its contract: the steps are run, and their answers printed. Assumes nothing.
use mathlib.Core.Path.{◌≡◌, ap}
use Rattle.steps_sheet.specs.Steps.{steps_from}
use Rattle.run_text.specs.declared.serve.Served.{Served}
use Rattle.run.proofs.texts.print_steps.Goals as goal

-- the fronts of the four lists are the replies of the steps, and their text is short
pub print_run-requires-clause-short : goal.print_run-requires-clause-short
print_run-requires-clause-short c =
    let s = c.serve-served in
    let front = c.front.ensures in
    let whole : s.result.whole ≡ (steps_from c.args.run.now.sheet.now c.args.run.now.from).whole = ap (λ (x : Served). x.whole) s.ensures.served in
    rw (front.long, front.answers, front.phases, front.reasons, front.held, s.ensures.told, whole) s.ensures.short
