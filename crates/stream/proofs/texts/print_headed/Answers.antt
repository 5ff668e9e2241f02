-- `print_headed` meets its contract: nothing, or the run, by the steps' heading. Assumes nothing.
use mathlib.Core.Path.{sym, ap, ◌∙◌}
use Rattle.grammar.specs.Sizes.{limit}
use Rattle.steps_sheet.specs.Heading.{Heading}
use Rattle.steps_sheet.proofs.Theorems.{headed_short, rows_told}
use Rattle.text.proofs.Printing.{text_is}
use Rattle.syslog.specs.Line.{stream_of}
use Rattle.stream_text.specs.Stream.{steps_events}
use Rattle.stream_text.proofs.Sheets.{nothing_printed, unheaded_stream}
use Rattle.stream.proofs.texts.print_headed.Goals as goal

pub invariant_of-run : goal.invariant_of-run
invariant_of-run c = record { sound = c.requires; short = headed_short limit c.args.steps.now (rows_told _ (sym c.in-Ok.is ∙ c.heading_of.ensures)) }

pub returns-in_default : goal.returns-in_default
returns-in_default c = nothing_printed _ _ (unheaded_stream c.args.fresh c.args.steps.now _ (sym c.in_default.is ∙ c.heading_of.ensures))

pub returns : goal.returns
returns c =
    text_is _ _ c.args.out.now
    (ap (λ (h : Heading). stream_of (steps_events c.args.fresh c.args.steps.now h)) (sym (rows_told _ (sym c.in-Ok.is ∙ c.heading_of.ensures))))
    c.print_steps.ensures
