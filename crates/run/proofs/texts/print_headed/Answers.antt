-- `print_headed` meets its contract: a number alone, or the run, by the steps' heading. Assumes nothing.
use mathlib.Core.Path.{sym, ap, ◌∙◌}
use Rattle.grammar.specs.Sizes.{limit}
use Rattle.text.proofs.Printing.{text_is}
use Rattle.steps_sheet.proofs.Theorems.{headed_short, rows_told}
use Rattle.run_text.specs.Printed.{steps_text}
use Rattle.run_text.proofs.Sheets.{unheaded_text}
use Rattle.run.proofs.texts.print_headed.Goals as goal

pub invariant_of-run : goal.invariant_of-run
invariant_of-run c = record { sound = c.requires; short = headed_short limit c.args.steps.now (rows_told _ (sym c.in-Ok.is ∙ c.heading_of.ensures)) }

pub returns-in-Ok : goal.returns-in-Ok
returns-in-Ok c =
    text_is _ _ c.args.out.now (ap (steps_text c.args.fresh c.args.steps.now) (sym (rows_told _ (sym c.in-Ok.is ∙ c.heading_of.ensures)))) c.print_steps.ensures

pub returns-in-Err : goal.returns-in-Err
returns-in-Err c = text_is _ _ c.args.out.now (unheaded_text c.args.fresh c.args.steps.now _ (sym c.in-Err.is ∙ c.heading_of.ensures)) (rw c.number.ensures at c.print_alone.ensures)
