-- The rows of a site sheet, taken from the top into the tables, and what is said of the row where that stops. 01, "Site sheet" and
-- "Numbers given back".
use Rattle.std.specs.Prelude.{ℕ, ◌+◌, Bool, true, false, cond, List, [], ◌∷◌}
use Rattle.grammar.specs.Rows.{Rows, no_more, broken, row}
use Rattle.verdict.specs.Verdict.{Verdict}
use Rattle.verdict.specs.Verdict.{Accepted, BadRow, OutOfRange, Twice, NoSite}
use Rattle.site_lines.specs.declared.SiteLine.{SiteLine}
use Rattle.site_lines.specs.declared.SiteLine.TheVariants.{Bad}
use Rattle.site_lines.specs.declared.Draft.{Draft}
use Rattle.site_lines.specs.Fault.{Fault}
use Rattle.site_lines.specs.Fault as fault
use Rattle.site_lines.specs.Draft.{Reading}
use Rattle.site_lines.specs.Line.{site_line_at}
use Rattle.site_lines.specs.Draft.{Taken, take_line}

-- nothing is wrong with a row
abbrev pub sound_fault : Fault → Bool
sound_fault fault.Sound = true
sound_fault fault.Form = false
sound_fault fault.NoSite = false
sound_fault fault.Range = false
sound_fault fault.Twice = false

abbrev pub verdict_of : Fault → ℕ → Verdict
verdict_of fault.Sound n = Accepted
verdict_of fault.Form n = BadRow n
verdict_of fault.NoSite n = NoSite
verdict_of fault.Range n = OutOfRange n
verdict_of fault.Twice n = Twice n

-- what the rows of a sheet say, one after the other; a row that can't be cut is of bad form, and the last that is read
unfoldable pub lines_in : List ℕ → Rows → List SiteLine
lines_in s no_more = []
lines_in s (broken byte) = Bad ∷ []
lines_in s (row cells rows) = site_line_at s cells ∷ lines_in s rows

abbrev pub reading : Draft → Fault → ℕ → Reading
reading d f n = record { draft = d; fault = f; row = n }

-- "rows from the top", up to the first with which something is wrong
abbrev pub on_taken : Taken → ℕ → Reading → Reading
on_taken t n more = cond (sound_fault t.fault) more (reading t.draft t.fault n)

unfoldable pub read_lines : Draft → ℕ → List SiteLine → Reading
read_lines d n [] = reading d fault.Sound n
read_lines d n (line ∷ lines) = on_taken (take_line d line) n (read_lines (take_line d line).draft (n + 1) lines)
