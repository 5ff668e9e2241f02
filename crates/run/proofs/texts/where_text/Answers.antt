-- `where_text` meets its contract: the site's refusal, then the record after the steps sheet. Assumes nothing.
use mathlib.Core.Path.{refl, sym, ◌∙◌}
use Rattle.text.proofs.Printing.{text_is}
use Rattle.steps_sheet.specs.Steps.{heading_of}
use Rattle.run_text.proofs.Sheets.{handed_sound, fresh_few, where_told, where_refusal}
use Rattle.run.proofs.texts.where_text.Goals as goal

pub last_record-requires : goal.last_record-requires
last_record-requires c = handed_sound c.args.site.now c.args.steps.now (sym c.in-Ok.is ∙ c.read_site.ensures)

pub print_record-requires : goal.print_record-requires
print_record-requires c = rw c.last_record.ensures (fresh_few c.args.site.now c.args.steps.now (sym c.in-Ok.is ∙ c.read_site.ensures) (heading_of c.args.steps.now))

pub returns-in-Ok : goal.returns-in-Ok
returns-in-Ok c =
    text_is _ _ c.args.out.now (where_told c.args.site.now c.args.steps.now (sym c.in-Ok.is ∙ c.read_site.ensures) refl)
    (rw c.last_record.ensures at c.print_record.ensures)

pub returns-in-Err : goal.returns-in-Err
returns-in-Err c = text_is _ _ c.args.out.now (where_refusal c.args.site.now c.args.steps.now (sym c.in-Err.is ∙ c.read_site.ensures)) c.print_places.ensures
