-- The record of an accepted site sheet. 01, "The record": "The fresh record of an accepted sheet holds exactly that sheet's
-- counts, its doors in row order, its exits and its rights, with everyone in 0 and every door free."
-- `most` is how many bytes a sheet may have.
use Rattle.std.specs.Prelude.{◌≡◌, List, ℕ}
use Rattle.record.specs.Sound.{Sound}
use Rattle.record.specs.Doors.{Shaped, fresh_record}
use Rattle.site_lines.specs.declared.SiteLine.{SiteLine}
use Rattle.site_lines.specs.declared.Draft.{Draft}
use Rattle.site_lines.specs.Draft.{plan_in}
use Rattle.site_sheet.specs.Site.{site_at}
use Rattle.site_lines.specs.Says.{Holds}
use Rattle.site_lines.specs.Gives.{Headed}

pub record AcceptedRecord (most : ℕ) (s : List ℕ) : Type 0 where
  -- the lines that the sheet's rows say
  pub lines : List SiteLine
  pub headed : Headed most s lines
  -- tables that hold exactly what they say
  pub tables : Draft
  pub holds : Holds lines tables
  -- the record is the fresh one of these tables
  pub fresh : (site_at most s).«record» ≡ fresh_record (plan_in tables) tables.right
  pub sound : Sound (site_at most s).«record»
  pub shaped : Shaped (site_at most s).«record»
