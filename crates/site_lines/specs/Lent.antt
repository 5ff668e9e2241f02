-- What becomes of the tables that are lent to whatever takes a row, and of the rows of a sheet, as the code tells it.
use Rattle.std.specs.Prelude.{ℕ, Result, Ok, Err}
use Rattle.site_lines.specs.declared.Draft.{Draft}
use Rattle.site_lines.specs.declared.RowFault as told
use Rattle.site_lines.specs.declared.RowFault.TheVariants as told_fault
use Rattle.site_lines.specs.declared.Stop.{Stop}
use Rattle.site_lines.specs.declared.Filled.{Filled}
use Rattle.site_lines.specs.declared.Stopped.{Stopped}
use Rattle.site_lines.specs.Fault.{Fault, Sound, Form, NoSite, Range, Twice}
use Rattle.site_lines.specs.Draft.{Taken, took, not_taken, Reading}

-- what is wrong with a row with which something is
abbrev pub fault_of : told.RowFault → Fault
fault_of told_fault.Form = Form
fault_of told_fault.NoSite = NoSite
fault_of told_fault.Range = Range
fault_of told_fault.Twice = Twice

-- what taking a row gave, with the tables as they are then
abbrev pub taken_with : Result (Unit {0}) told.RowFault → Draft → Taken
taken_with (Ok done) d = took d
taken_with (Err fault) d = not_taken d (fault_of fault)

abbrev pub stop : told.RowFault → ℕ → Stop
stop fault n = record { fault = fault; row = n }

-- where rows stop: what is told of them all, or what is wrong with the last and its number
abbrev pub stopped_told : {A : Type 0} → A → Fault → ℕ → Result A Stop
stopped_told told Sound n = Ok told
stopped_told told Form n = Err (stop told_fault.Form n)
stopped_told told NoSite n = Err (stop told_fault.NoSite n)
stopped_told told Range n = Err (stop told_fault.Range n)
stopped_told told Twice n = Err (stop told_fault.Twice n)

-- the same with the tables as they are then
abbrev pub with_tables : Draft → Result ℕ Stop → Result Filled Stopped
with_tables d (Ok n) = Ok (record { draft = d; row = n })
with_tables d (Err stop) = Err (record { draft = d; stop = stop })

-- How far the rows were read: the tables and the row behind them all, or the tables and where the rows stopped.
abbrev pub reading_told : Reading → Result Filled Stopped
reading_told r = with_tables r.draft (stopped_told r.row r.fault r.row)
