-- `site_tables::read_rows` meets its contract: the rows are taken into blank tables.
-- Assumes nothing.
use mathlib.Core.Path.{sym, ◌∙◌}
use Rattle.tables.specs.Zero.{zeros}
use Rattle.site_lines.specs.Draft.{unmarked}
use Rattle.site_lines.proofs.Loop.{tables_told}
use Rattle.site_tables.proofs.read_rows.Goals as goal

pub returns-in-Ok : goal.returns-in-Ok
unfolding zeros unmarked
returns-in-Ok c =
    let e = c.take_rows.ensures in
    rw c.blank_rights.ensures at (tables_told _ (sym c.in-Ok.is ∙ e.told) e.draft)

pub returns-in-Err : goal.returns-in-Err
unfolding zeros unmarked
returns-in-Err c =
    let e = c.take_rows.ensures in
    rw c.blank_rights.ensures at (tables_told _ (sym c.in-Err.is ∙ e.told) e.draft)
