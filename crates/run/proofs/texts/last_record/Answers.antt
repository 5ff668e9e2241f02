-- `last_record` meets its contract, by the steps' heading. Assumes nothing.
use mathlib.Core.Path.{sym, ap, ◌∙◌}
use Rattle.grammar.specs.Sizes.{limit}
use Rattle.steps_sheet.proofs.Theorems.{headed_short, rows_told}
use Rattle.run_text.specs.declared.serve.Served.{Served}
use Rattle.run_text.specs.Printed.{last_record}
use Rattle.run_text.proofs.Sheets.{unheaded_record}
use Rattle.run.proofs.texts.last_record.Goals as goal

pub invariant_of-run : goal.invariant_of-run
invariant_of-run c = record { sound = c.requires; short = headed_short limit c.args.steps.now (rows_told _ (sym c.in-Ok.is ∙ c.heading_of.ensures)) }

pub returns-in_default : goal.returns-in_default
returns-in_default c = unheaded_record c.args.fresh c.args.steps.now _ (sym c.in_default.is ∙ c.heading_of.ensures)

pub returns : goal.returns
returns c =
    ap (λ (x : Served). x.next) c.serve.ensures.served
    ∙ sym (ap (last_record c.args.fresh c.args.steps.now) (rows_told _ (sym c.in-Ok.is ∙ c.heading_of.ensures)))
