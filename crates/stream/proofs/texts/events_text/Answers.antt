-- `events_text` meets its contract: nothing where the site is refused, else what becomes of the steps sheet. Assumes nothing.
use mathlib.Core.Path.{refl, sym, ◌∙◌}
use Rattle.text.proofs.Printing.{text_is}
use Rattle.run_text.proofs.Sheets.{handed_sound}
use Rattle.stream_text.proofs.Sheets.{nothing_printed, stream_told, stream_refusal}
use Rattle.stream.proofs.texts.events_text.Goals as goal

pub print_headed-requires : goal.print_headed-requires
print_headed-requires c = handed_sound c.args.site.now c.args.steps.now (sym c.in-Ok.is ∙ c.read_site.ensures)

pub returns-in-Ok : goal.returns-in-Ok
returns-in-Ok c = text_is _ _ c.args.out.now (stream_told c.args.site.now c.args.steps.now (sym c.in-Ok.is ∙ c.read_site.ensures) refl) c.print_headed.ensures

pub returns-in-Err : goal.returns-in-Err
returns-in-Err c = nothing_printed _ _ (stream_refusal c.args.site.now c.args.steps.now (sym c.in-Err.is ∙ c.read_site.ensures))
